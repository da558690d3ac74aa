-- What a result says is said by no other: for each way to say it. Assumes nothing.
use Rattle.std.specs.Prelude.{ℕ, ◌≡◌, refl, cond, eqb, Result, Ok, Err}
use Rattle.std.proofs.Common.{sym, ap, ◌∙◌, arith}
use Rattle.std.specs.declared.cmp.Ordering.{Ordering}
use Rattle.std.specs.declared.cmp.Ordering.TheVariants.{Less, Equal, Greater}
use Rattle.refusal.specs.declared.Refusal.{Refusal}
use Rattle.refusal.specs.Refusal.{Answer, DONE, number, said}
use Rattle.refusal.specs.AnswerLaws.{done_one, done_refused, refused_done, refused_one, number_one, number_some}
use Rattle.leaves.specs.Answer.{place, said_order}
use Rattle.tatami.specs.declared.Filled.{Filled as Sewn}
use Rattle.tatami.specs.Left.{Filled, Listed, said_filled, said_listed}
use Rattle.fillroom.specs.declared.Room.{Room as Lent}
use Rattle.fillroom.specs.Room.{Room, said_room}
use Rattle.satinroom.specs.Room as satin
use Rattle.halves.specs.declared.Underlaid.{Underlaid as Laid}
use Rattle.halves.specs.Answers.{Underlaid, said_underlaid}
use Rattle.patterns_rules.specs.declared.Bounds.{Bounds}
use Rattle.patterns.specs.Said.{said_box, box_of}
use Rattle.patterns_rules.specs.declared.Count.{Count}
use Rattle.patterns_rules.specs.Answers.{Lines, said_count}
use Rattle.jobs.specs.declared.job.Job.{Job}
use Rattle.jobs.specs.declared.job2.Second.{Second}
use Rattle.jobs.specs.Parsed.{Parsed, said_parsed}
use Rattle.jobs.specs.Parsed as one_job
use Rattle.jobs.specs.Parsed2.{Parsed2, said_parsed2}
use Rattle.jobs.specs.Parsed2 as two_jobs
use Rattle.dst_read.specs.declared.unread.Unread.{Unread}
use Rattle.dst_read.specs.Unread.{Read, said_read}
use Rattle.salvage.specs.declared.Counts.{Counts}
use Rattle.salvage.specs.Salvage.{Salvaged, said_salvaged}
use Rattle.book.specs.declared.values.Values.{Values}
use Rattle.book.specs.Fetched.{Fetched, said_fetched}
use Rattle.book.specs.Fetched as sheet

-- ---- a place in the order

place_of : ℕ → Ordering
place_of n = cond (eqb n 0) Less (cond (eqb n 1) Equal Greater)

of_place : (o : Ordering) → place_of (place o) ≡ o
unfolding place_of
of_place Less = refl
of_place Equal = refl
of_place Greater = refl

pub order_one : (r s : Result Ordering Refusal) → said_order r ≡ said_order s → r ≡ s
order_one (Ok o) (Ok q) e = ap Ok (sym (of_place o) ∙ ap place_of (done_one e) ∙ of_place q)
order_one (Ok o) (Err f) e = absurd (done_refused e)
order_one (Err f) (Ok q) e = absurd (refused_done e)
order_one (Err f) (Err g) e = ap Err (number_one f g (refused_one ℕ e))

-- ---- a number alone

pub number_said : (r s : Result Unit Refusal) → (said r).number ≡ (said s).number → r ≡ s
number_said (Ok u) (Ok v) e = refl
number_said (Ok u) (Err f) e = absurd (number_some f (sym e))
number_said (Err f) (Ok v) e = absurd (number_some f e)
number_said (Err f) (Err g) e = ap Err (number_one f g e)

-- ---- the fill

pub filled_one : (r s : Result Sewn Refusal) → said_filled r ≡ said_filled s → r ≡ s
filled_one (Ok a) (Ok b) e = λ i. Ok (record { sections = (e i).sections; points = (e i).points })
filled_one (Ok a) (Err f) e = absurd (number_some f (sym (ap (λ (x : Filled). x.answer) e)))
filled_one (Err f) (Ok b) e = absurd (number_some f (ap (λ (x : Filled). x.answer) e))
filled_one (Err f) (Err g) e = ap Err (number_one f g (ap (λ (x : Filled). x.answer) e))

pub listed_one : (r s : Result ℕ Refusal) → said_listed r ≡ said_listed s → r ≡ s
listed_one (Ok a) (Ok b) e = λ i. Ok (e i).pieces
listed_one (Ok a) (Err f) e = absurd (number_some f (sym (ap (λ (x : Listed). x.answer) e)))
listed_one (Err f) (Ok b) e = absurd (number_some f (ap (λ (x : Listed). x.answer) e))
listed_one (Err f) (Err g) e = ap Err (number_one f g (ap (λ (x : Listed). x.answer) e))

pub room_one : (r s : Result Lent Refusal) → said_room r ≡ said_room s → r ≡ s
room_one (Ok a) (Ok b) e = λ i. Ok (record { floats = (e i).floats; wholes = (e i).wholes })
room_one (Ok a) (Err f) e = absurd (number_some f (sym (ap (λ (x : Room). x.answer) e)))
room_one (Err f) (Ok b) e = absurd (number_some f (ap (λ (x : Room). x.answer) e))
room_one (Err f) (Err g) e = ap Err (number_one f g (ap (λ (x : Room). x.answer) e))

-- ---- satin and patterns

pub bounds_one : (r s : Result Bounds Refusal) → said_box (box_of r) ≡ said_box (box_of s) → r ≡ s
bounds_one (Ok v) (Ok w) e = ap Ok (done_one e)
bounds_one (Ok v) (Err f) e = absurd (done_refused e)
bounds_one (Err f) (Ok w) e = absurd (refused_done e)
bounds_one (Err f) (Err g) e = ap Err (number_one f g (refused_one Bounds e))

pub floats_one : (r s : Result ℕ Refusal) → satin.said_room r ≡ satin.said_room s → r ≡ s
floats_one (Ok a) (Ok b) e = λ i. Ok (e i).floats
floats_one (Ok a) (Err f) e = absurd (number_some f (sym (ap (λ (x : satin.Room). x.answer) e)))
floats_one (Err f) (Ok b) e = absurd (number_some f (ap (λ (x : satin.Room). x.answer) e))
floats_one (Err f) (Err g) e = ap Err (number_one f g (ap (λ (x : satin.Room). x.answer) e))

pub underlaid_one : (r s : Result Laid Refusal) → said_underlaid r ≡ said_underlaid s → r ≡ s
underlaid_one (Ok a) (Ok b) e = λ i. Ok (record { points = (e i).points; far = (e i).far })
underlaid_one (Ok a) (Err f) e = absurd (number_some f (sym (ap (λ (x : Underlaid). x.answer) e)))
underlaid_one (Err f) (Ok b) e = absurd (number_some f (ap (λ (x : Underlaid). x.answer) e))
underlaid_one (Err f) (Err g) e = ap Err (number_one f g (ap (λ (x : Underlaid). x.answer) e))

pub lines_one : (r s : Result Count Refusal) → said_count r ≡ said_count s → r ≡ s
lines_one (Ok a) (Ok b) e = λ i. Ok (record { lines = (e i).lines; points = (e i).points })
lines_one (Ok a) (Err f) e = absurd (number_some f (sym (ap (λ (x : Lines). x.answer) e)))
lines_one (Err f) (Ok b) e = absurd (number_some f (ap (λ (x : Lines). x.answer) e))
lines_one (Err f) (Err g) e = ap Err (number_one f g (ap (λ (x : Lines). x.answer) e))

-- ---- jobs

-- the result that says it, if it is a job
job_or : Job → Parsed → Job
job_or j (one_job.Done k) = k
job_or j (one_job.Refused n) = j

number_or : ℕ → Parsed → ℕ
number_or m (one_job.Done k) = m
number_or m (one_job.Refused n) = n

pub parsed_one : (r s : Result Job Refusal) → said_parsed r ≡ said_parsed s → r ≡ s
unfolding job_or number_or
parsed_one (Ok a) (Ok b) e = λ i. Ok (job_or a (e i))
parsed_one (Ok a) (Err f) e = absurd (number_some f (sym (ap (number_or 0) e)))
parsed_one (Err f) (Ok b) e = absurd (number_some f (ap (number_or 0) e))
parsed_one (Err f) (Err g) e = ap Err (number_one f g (ap (number_or 0) e))

both_or : Job × Second → Parsed2 → Job × Second
both_or p (two_jobs.Done j k) = (j, k)
both_or p (two_jobs.Refused n) = p

number2_or : ℕ → Parsed2 → ℕ
number2_or m (two_jobs.Done j k) = m
number2_or m (two_jobs.Refused n) = n

pub parsed2_one : (r s : Result (Job × Second) Refusal) → said_parsed2 r ≡ said_parsed2 s → r ≡ s
unfolding both_or number2_or
parsed2_one (Ok a) (Ok b) e = λ i. Ok (both_or a (e i))
parsed2_one (Ok a) (Err f) e = absurd (number_some f (sym (ap (number2_or 0) e)))
parsed2_one (Err f) (Ok b) e = absurd (number_some f (ap (number2_or 0) e))
parsed2_one (Err f) (Err g) e = ap Err (number_one f g (ap (number2_or 0) e))

-- ---- the rest

pub read_one : (r s : Result ℕ Unread) → said_read r ≡ said_read s → r ≡ s
read_one (Ok a) (Ok b) e = λ i. Ok (e i).points
read_one (Ok a) (Err u) e = absurd (number_some u.refusal (sym (ap (λ (x : Read). x.answer) e)))
read_one (Err u) (Ok b) e = absurd (number_some u.refusal (ap (λ (x : Read). x.answer) e))
read_one (Err u) (Err v) e = let p = number_one u.refusal v.refusal (ap (λ (x : Read). x.answer) e) in λ i. Err (record { refusal = p i; number = (e i).number })

pub salvaged_one : (r s : Result Counts Refusal) → said_salvaged r ≡ said_salvaged s → r ≡ s
salvaged_one (Ok a) (Ok b) e = λ i. Ok (record { corners = (e i).corners; dropped = (e i).dropped })
salvaged_one (Ok a) (Err f) e = absurd (number_some f (sym (ap (λ (x : Salvaged). x.answer) e)))
salvaged_one (Err f) (Ok b) e = absurd (number_some f (ap (λ (x : Salvaged). x.answer) e))
salvaged_one (Err f) (Err g) e = ap Err (number_one f g (ap (λ (x : Salvaged). x.answer) e))

values_or : Values → Fetched → Values
values_or v (sheet.Sheet w) = w
values_or v (sheet.Refused n) = v

refused_or : ℕ → Fetched → ℕ
refused_or m (sheet.Sheet w) = m
refused_or m (sheet.Refused n) = n

pub fetched_one : (r s : Result Values Refusal) → said_fetched r ≡ said_fetched s → r ≡ s
unfolding values_or refused_or
fetched_one (Ok a) (Ok b) e = λ i. Ok (values_or a (e i))
fetched_one (Ok a) (Err f) e = absurd (number_some f (sym (ap (refused_or 0) e)))
fetched_one (Err f) (Ok b) e = absurd (number_some f (ap (refused_or 0) e))
fetched_one (Err f) (Err g) e = ap Err (number_one f g (ap (refused_or 0) e))
