use Rattle.book.specs.Book.{values_of}
use Rattle.book.specs.BookLaws.{float_at, number_at}
use Rattle.book.proofs.values.values_at.Goals as goal

pub returns : goal.returns
unfolding values_of
returns c =
    let s = c.args.s.now in
    let at = c.args.at in
    rw (c.float_at-spacing.ensures, c.float_at-len.ensures, c.float_at-inset.ensures, c.float_at-pull.ensures, c.number_at-stagger.ensures.0, float_at s at 5, float_at s at 13, float_at s at 21, float_at s at 29, number_at s at 37 4)
