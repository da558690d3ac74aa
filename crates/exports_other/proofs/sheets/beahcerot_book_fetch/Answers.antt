use borrow.Author.Rules.{rules}
use Rattle.exports_other.proofs.sheets.beahcerot_book_fetch.Goals as goal

pub returns : goal.returns
returns c = rw c.fetch.ensures at c.store_values.ensures
