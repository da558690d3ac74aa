use mathlib.Core.Path.{sym, ◌∙◌}
use Rattle.book.specs.BookLaws.{placed_is}
use Rattle.book.proofs.Sizes.{stands_there}
use Rattle.book.proofs.framing.stands.Goals as goal

pub size_at-requires : goal.size_at-requires
size_at-requires c = c.place-at.ensures.way.fits

pub returns : goal.returns
returns c = c.is_some.ensures ∙ stands_there c.args.s.now c.place-at.result c.size_at.result c.size_at.ensures ∙ sym (placed_is _ _ _ c.place-at.ensures)
