use Rattle.exports_fill.proofs.Listings.{listed_told}
use Rattle.exports_fill.proofs.fill.store_listed.Goals as goal

pub returns : goal.returns
returns c = listed_told c.args.r c.store_count.ensures.0 c.store_count.ensures.1
