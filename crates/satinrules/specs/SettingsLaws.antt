-- What the maker says tells what it answered. Assumes nothing.
use Rattle.std.specs.Prelude.{◌≡◌, Result}
use Rattle.refusal.specs.AnswerLaws as answers
use Rattle.refusal.specs.Refusal.{said}
use Rattle.refusal.specs.declared.Refusal.{Refusal}
use Rattle.satinrules.specs.declared.Satin.{Satin}

-- no two answers say the same
pub said_one : (x y : Result Satin Refusal) → said x ≡ said y → x ≡ y
said_one x y e = answers.said_one x y e
