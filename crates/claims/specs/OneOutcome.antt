-- Any two outcomes that a call's contract allows are equal: one theorem for each call of docs/CALLS.md. Assumes nothing.
-- The contracts are the source's own: of a function f, `f_contract.ended` is its signature and `f.Reads.Learnt` what rattle makes of its `ensures` and tells every caller. No theorem says their words again, so a contract that leaves a choice open is refused here.
use Rattle.std.specs.Prelude.{ℕ, ◌≡◌, refl, List, ◌++◌, length, drop, Float}
use Rattle.std.proofs.Common.{sym, ap, ◌∙◌, arith}
use contract.Lifetimes.{Lfts}
use denote.Triple.Entry.{Args, Res}
use denote.Triple.Clauses.{Ended, Lasts, AtExit, at_exit}
use Rattle.refusal.specs.AnswerLaws.{said_one, said_sewn_one, said_written_one}
use Rattle.tatami.specs.Left.{Filled, Left, LeftList, said_filled, left}
use Rattle.layers.specs.declared.Both.{Both}
use Rattle.layers.specs.Layers.{Twice}
use Rattle.jobs.specs.Parsed.{Parsed}
use Rattle.jobs.specs.Parsed2.{Parsed2}
use Rattle.jobs.specs.Job.{corners as Job·corners, ends as Job·ends, left as Job·left}
use Rattle.jobs.specs.Job2.{corners2, ends2, left2}
use Rattle.salvage.specs.Salvage.{Outcome as SalvageOutcome}
use Rattle.desk.specs.Listing.{printed}
use Rattle.claims.specs.Told.{order_one, number_said, filled_one, listed_one, room_one, bounds_one, floats_one, underlaid_one, lines_one, parsed_one, parsed2_one, read_one, salvaged_one, fetched_one}
use Rattle.leaves.proofs.checked.root
use Rattle.leaves.proofs.checked.floor
use Rattle.leaves.proofs.checked.ceil
use Rattle.leaves.proofs.checked.magnitude
use Rattle.leaves.proofs.checked.smaller
use Rattle.leaves.proofs.checked.larger
use Rattle.leaves.proofs.checked.order
use Rattle.geometry.proofs.checked.dot
use Rattle.geometry.proofs.checked.len
use Rattle.geometry.proofs.checked.dist
use Rattle.geometry.proofs.checked.norm
use Rattle.geometry.proofs.checked.perp
use Rattle.geometry.proofs.checked.rotate
use Rattle.geometry.proofs.checked.lerp
use Rattle.geometry.proofs.checked.cross
use Rattle.geometry.proofs.checked.inside
use Rattle.geometry.proofs.checked.winding
use Rattle.geometry.proofs.checked.point_inside
use Rattle.geometry.proofs.checked.segment_inside
use Rattle.geometry.proofs.checked_line.polyline_length
use Rattle.geometry.proofs.checked_line.resample_keep_corners
use Rattle.stroke.proofs.running
use Rattle.satinrules.proofs.Satin.new as made
use Rattle.satin.proofs.pairs
use Rattle.satin.proofs.split_long
use Rattle.satin.proofs.s_stitch
use Rattle.column.proofs.column
use Rattle.halves.proofs.underlay
use Rattle.halves.proofs.top
use Rattle.satinroom.proofs.pairs_room
use Rattle.satinroom.proofs.column_room
use Rattle.patterns.proofs.bounds
use Rattle.patterns.proofs.clip_inside
use Rattle.patterns.proofs.cross_stitch
use Rattle.meander.proofs.meander
use Rattle.tatami.proofs.tatami
use Rattle.tatami.proofs.row_list
use Rattle.plain.proofs.tatami as plain_tatami
use Rattle.plain.proofs.row_list as plain_row_list
use Rattle.layers.proofs.tatami_twice
use Rattle.fillroom.proofs.fill_room
use Rattle.jobs.proofs.job.parse
use Rattle.jobs.proofs.job2.parse2
use Rattle.desk.proofs.fill_job
use Rattle.desk.proofs.two.fill_job2
use Rattle.dst.proofs.dst
use Rattle.dst_read.proofs.dst_read
use Rattle.salvage.proofs.salvage
use Rattle.book.proofs.store
use Rattle.book.proofs.fetch
use Rattle.book.proofs.remove
use Rattle.leaves.specs.contracts.checked.root as root_contract
use Rattle.leaves.specs.contracts.checked.floor as floor_contract
use Rattle.leaves.specs.contracts.checked.ceil as ceil_contract
use Rattle.leaves.specs.contracts.checked.magnitude as magnitude_contract
use Rattle.leaves.specs.contracts.checked.smaller as smaller_contract
use Rattle.leaves.specs.contracts.checked.larger as larger_contract
use Rattle.leaves.specs.contracts.checked.order as order_contract
use Rattle.geometry.specs.contracts.checked.dot as dot_contract
use Rattle.geometry.specs.contracts.checked.len as len_contract
use Rattle.geometry.specs.contracts.checked.dist as dist_contract
use Rattle.geometry.specs.contracts.checked.norm as norm_contract
use Rattle.geometry.specs.contracts.checked.perp as perp_contract
use Rattle.geometry.specs.contracts.checked.rotate as rotate_contract
use Rattle.geometry.specs.contracts.checked.lerp as lerp_contract
use Rattle.geometry.specs.contracts.checked.cross as cross_contract
use Rattle.geometry.specs.contracts.checked.inside as inside_contract
use Rattle.geometry.specs.contracts.checked.winding as winding_contract
use Rattle.geometry.specs.contracts.checked.point_inside as point_inside_contract
use Rattle.geometry.specs.contracts.checked.segment_inside as segment_inside_contract
use Rattle.geometry.specs.contracts.checked_line.polyline_length as polyline_length_contract
use Rattle.geometry.specs.contracts.checked_line.resample_keep_corners as resample_keep_corners_contract
use Rattle.stroke.specs.contracts.running as running_contract
use Rattle.satinrules.specs.contracts.Satin.new as made_contract
use Rattle.satin.specs.contracts.pairs as pairs_contract
use Rattle.satin.specs.contracts.split_long as split_long_contract
use Rattle.satin.specs.contracts.s_stitch as s_stitch_contract
use Rattle.column.specs.contracts.column as column_contract
use Rattle.halves.specs.contracts.underlay as underlay_contract
use Rattle.halves.specs.contracts.top as top_contract
use Rattle.satinroom.specs.contracts.pairs_room as pairs_room_contract
use Rattle.satinroom.specs.contracts.column_room as column_room_contract
use Rattle.patterns.specs.contracts.bounds as bounds_contract
use Rattle.patterns.specs.contracts.clip_inside as clip_inside_contract
use Rattle.patterns.specs.contracts.cross_stitch as cross_stitch_contract
use Rattle.meander.specs.contracts.meander as meander_contract
use Rattle.tatami.specs.contracts.tatami as tatami_contract
use Rattle.tatami.specs.contracts.row_list as row_list_contract
use Rattle.plain.specs.contracts.tatami as plain_tatami_contract
use Rattle.plain.specs.contracts.row_list as plain_row_list_contract
use Rattle.layers.specs.contracts.tatami_twice as tatami_twice_contract
use Rattle.fillroom.specs.contracts.fill_room as fill_room_contract
use Rattle.jobs.specs.contracts.job.parse as parse_contract
use Rattle.jobs.specs.contracts.job2.parse2 as parse2_contract
use Rattle.desk.specs.contracts.fill_job as fill_job_contract
use Rattle.desk.specs.contracts.two.fill_job2 as fill_job2_contract
use Rattle.dst.specs.contracts.dst as dst_contract
use Rattle.dst_read.specs.contracts.dst_read as dst_read_contract
use Rattle.salvage.specs.contracts.salvage as salvage_contract
use Rattle.book.specs.contracts.store as store_contract
use Rattle.book.specs.contracts.fetch as fetch_contract
use Rattle.book.specs.contracts.remove as remove_contract

-- ---- one outcome

-- what a call leaves: its result, and the last value of each slice that it may write (of any other parameter `Lasts` has a unit)
abbrev pub Outcome : (call : Ended) (κs : Lfts call.signature.lifetimes) → Args call.signature κs → Type 0
Outcome call κs a = Res call.signature κs × Lasts call κs a

-- what a contract can say: of the lifetimes, the arguments, the result and the parameters at exit
abbrev pub Says : Ended → Type 1
Says call = (κs : Lfts call.signature.lifetimes) → Args call.signature κs → Res call.signature κs → AtExit call κs → Type 0

-- whatever the arguments, any two outcomes that the contract allows are equal
abbrev pub One : (call : Ended) → Says call → Type 0
One call says = (κs : Lfts call.signature.lifetimes) (a : Args call.signature κs) (x y : Outcome call κs a) → says κs a x.0 (at_exit call κs a x.1) → says κs a y.0 (at_exit call κs a y.1) → x ≡ y

-- ---- parts of an outcome, each said by an equation

abbrev pub both : {A B : Type 0} {x y : A × B} → x.0 ≡ y.0 → x.1 ≡ y.1 → x ≡ y
both p q = λ i. (p i, q i)

abbrev pub one : {A : Type 0} {x a a' : A} → a ≡ x → a' ≡ x → a ≡ a'
one p q = p ∙ sym q

-- ---- the numbers

pub root_outcome : One root_contract.ended root.Reads.Learnt
root_outcome κs a x y h k = both (said_one _ _ (one h k)) refl

pub floor_outcome : One floor_contract.ended floor.Reads.Learnt
floor_outcome κs a x y h k = both (said_one _ _ (one h k)) refl

pub ceil_outcome : One ceil_contract.ended ceil.Reads.Learnt
ceil_outcome κs a x y h k = both (said_one _ _ (one h k)) refl

pub magnitude_outcome : One magnitude_contract.ended magnitude.Reads.Learnt
magnitude_outcome κs a x y h k = both (said_one _ _ (one h k)) refl

pub smaller_outcome : One smaller_contract.ended smaller.Reads.Learnt
smaller_outcome κs a x y h k = both (said_one _ _ (one h k)) refl

pub larger_outcome : One larger_contract.ended larger.Reads.Learnt
larger_outcome κs a x y h k = both (said_one _ _ (one h k)) refl

pub order_outcome : One order_contract.ended order.Reads.Learnt
order_outcome κs a x y h k = both (order_one _ _ (one h k)) refl

-- ---- the geometry

pub dot_outcome : One dot_contract.ended dot.Reads.Learnt
dot_outcome κs a x y h k = both (said_one _ _ (one h k)) refl

pub len_outcome : One len_contract.ended len.Reads.Learnt
len_outcome κs a x y h k = both (said_one _ _ (one h k)) refl

pub dist_outcome : One dist_contract.ended dist.Reads.Learnt
dist_outcome κs a x y h k = both (said_one _ _ (one h k)) refl

pub norm_outcome : One norm_contract.ended norm.Reads.Learnt
norm_outcome κs a x y h k = both (said_one _ _ (one h k)) refl

pub perp_outcome : One perp_contract.ended perp.Reads.Learnt
perp_outcome κs a x y h k = both (said_one _ _ (one h k)) refl

pub rotate_outcome : One rotate_contract.ended rotate.Reads.Learnt
rotate_outcome κs a x y h k = both (said_one _ _ (one h k)) refl

pub lerp_outcome : One lerp_contract.ended lerp.Reads.Learnt
lerp_outcome κs a x y h k = both (said_one _ _ (one h k)) refl

pub cross_outcome : One cross_contract.ended cross.Reads.Learnt
cross_outcome κs a x y h k = both (said_one _ _ (one h k)) refl

pub inside_outcome : One inside_contract.ended inside.Reads.Learnt
inside_outcome κs a x y h k = both (said_one _ _ (one h k)) refl

pub winding_outcome : One winding_contract.ended winding.Reads.Learnt
winding_outcome κs a x y h k = both (said_one _ _ (one h k)) refl

pub point_inside_outcome : One point_inside_contract.ended point_inside.Reads.Learnt
point_inside_outcome κs a x y h k = both (said_one _ _ (one h k)) refl

pub segment_inside_outcome : One segment_inside_contract.ended segment_inside.Reads.Learnt
segment_inside_outcome κs a x y h k = both (said_one _ _ (one h k)) refl

pub polyline_length_outcome : One polyline_length_contract.ended polyline_length.Reads.Learnt
polyline_length_outcome κs a x y h k = both (said_one _ _ (one h k)) refl

pub resample_keep_corners_outcome : One resample_keep_corners_contract.ended resample_keep_corners.Reads.Learnt
resample_keep_corners_outcome κs a x y h k = both (said_sewn_one _ _ (one h.0 k.0)) (λ i. (tt, (tt, (one h.1 k.1 i, tt))))

-- ---- running stitch, satin, patterns

pub running_outcome : One running_contract.ended running.Reads.Learnt
running_outcome κs a x y h k = both (said_sewn_one _ _ (one h.0 k.0)) (λ i. (tt, (tt, (tt, (tt, (one h.1 k.1 i, tt))))))

pub made_outcome : One made_contract.ended made.Reads.Learnt
made_outcome κs a x y h k = both (said_one _ _ (one h k)) refl

pub pairs_outcome : One pairs_contract.ended pairs.Reads.Learnt
pairs_outcome κs a x y h k = both (said_sewn_one _ _ (one h.0 k.0)) (λ i. (tt, (tt, (tt, (tt, (one h.2 k.2 i, (one h.1 k.1 i, tt)))))))

pub split_long_outcome : One split_long_contract.ended split_long.Reads.Learnt
split_long_outcome κs a x y h k = both (said_sewn_one _ _ (one h.0 k.0)) (λ i. (tt, (tt, (one h.1 k.1 i, tt))))

pub s_stitch_outcome : One s_stitch_contract.ended s_stitch.Reads.Learnt
s_stitch_outcome κs a x y h k = both (said_sewn_one _ _ (one h.0 k.0)) (λ i. (tt, (one h.1 k.1 i, tt)))

pub column_outcome : One column_contract.ended column.Reads.Learnt
column_outcome κs a x y h k = both (said_sewn_one _ _ (one h.0 k.0)) (λ i. (tt, (tt, (tt, (tt, (one h.2 k.2 i, (one h.1 k.1 i, tt)))))))

-- the two halves of a column (document 02)
pub underlay_outcome : One underlay_contract.ended underlay.Reads.Learnt
underlay_outcome κs a x y h k = both (underlaid_one _ _ (one h.0 k.0)) (λ i. (tt, (tt, (tt, (tt, (one h.2 k.2 i, (one h.1 k.1 i, tt)))))))

pub top_outcome : One top_contract.ended top.Reads.Learnt
top_outcome κs a x y h k = both (said_sewn_one _ _ (one h.0 k.0)) (λ i. (tt, (tt, (tt, (tt, (tt, (one h.2 k.2 i, (one h.1 k.1 i, tt))))))))

pub pairs_room_outcome : One pairs_room_contract.ended pairs_room.Reads.Learnt
pairs_room_outcome κs a x y h k = both (floats_one _ _ (one h k)) refl

pub column_room_outcome : One column_room_contract.ended column_room.Reads.Learnt
column_room_outcome κs a x y h k = both (floats_one _ _ (one h k)) refl

pub bounds_outcome : One bounds_contract.ended bounds.Reads.Learnt
bounds_outcome κs a x y h k = both (bounds_one _ _ (one h k)) refl

pub clip_inside_outcome : One clip_inside_contract.ended clip_inside.Reads.Learnt
clip_inside_outcome κs a x y h k = both (lines_one _ _ (one h.0 k.0)) (λ i. (tt, (tt, (tt, (tt, (one h.1 k.1 i, (one h.2 k.2 i, tt)))))))

pub cross_stitch_outcome : One cross_stitch_contract.ended cross_stitch.Reads.Learnt
cross_stitch_outcome κs a x y h k = both (lines_one _ _ (one h.0 k.0)) (λ i. (tt, (tt, (tt, (tt, (one h.1 k.1 i, (one h.2 k.2 i, tt)))))))

pub meander_outcome : One meander_contract.ended meander.Reads.Learnt
meander_outcome κs a x y h k = both (lines_one _ _ (one h.0 k.0)) (λ i. (tt, (tt, (tt, (tt, (tt, (tt, (one h.1 k.1 i, (one h.2 k.2 i, (one h.3 k.3 i, tt))))))))))

-- ---- the fill

-- one equation says all that it leaves
left_parts : {r r' : Filled} {p p' f f' : List Float} {e e' w w' : List ℕ} → left r p e f w ≡ left r' p' e' f' w' → (r ≡ r') × (p ≡ p') × (e ≡ e') × (f ≡ f') × (w ≡ w')
left_parts h = (ap (λ (l : Left). l.said) h, ap (λ (l : Left). l.points) h, ap (λ (l : Left). l.ends) h, ap (λ (l : Left). l.floats) h, ap (λ (l : Left). l.wholes) h)

pub tatami_outcome : One tatami_contract.ended tatami.Reads.Learnt
tatami_outcome κs a x y h k = let s = left_parts (one h k) in both (filled_one _ _ s.0) (λ i. (tt, (tt, (tt, (tt, (tt, (tt, (s.1 i, (s.2 i, (s.3 i, (s.4 i, tt)))))))))))

pub row_list_outcome : One row_list_contract.ended row_list.Reads.Learnt
row_list_outcome κs a x y h k = let s = one h k in both (listed_one _ _ (ap (λ (l : LeftList). l.said) s)) (λ i. (tt, (tt, (tt, (tt, (tt, (tt, ((s i).ys, ((s i).rows, ((s i).sections, ((s i).floats, ((s i).wholes, tt))))))))))))

pub plain_tatami_outcome : One plain_tatami_contract.ended plain_tatami.Reads.Learnt
plain_tatami_outcome κs a x y h k = let s = left_parts (one h k) in both (filled_one _ _ s.0) (λ i. (tt, (tt, (tt, (tt, (tt, (tt, (s.1 i, (s.2 i, (s.3 i, (s.4 i, tt)))))))))))

pub plain_row_list_outcome : One plain_row_list_contract.ended plain_row_list.Reads.Learnt
plain_row_list_outcome κs a x y h k = let s = one h k in both (listed_one _ _ (ap (λ (l : LeftList). l.said) s)) (λ i. (tt, (tt, (tt, (tt, (tt, (tt, ((s i).ys, ((s i).rows, ((s i).sections, ((s i).floats, ((s i).wholes, tt))))))))))))

twice_said : (r s : Both) → said_filled r.first ≡ said_filled s.first → said_filled r.second ≡ said_filled s.second → r ≡ s
twice_said r s p q = λ i. record { first = filled_one _ _ p i; second = filled_one _ _ q i }

pub tatami_twice_outcome : One tatami_twice_contract.ended tatami_twice.Reads.Learnt
tatami_twice_outcome κs a x y h k =
    let s = one h k in
    both (twice_said _ _ (ap (λ (t : Twice). t.first.said) s) (ap (λ (t : Twice). t.second.said) s)) (λ i. (tt, (tt, (tt, (tt, (tt, (tt, (tt, ((s i).table, ((s i).places, ((s i).first.points, ((s i).first.ends, ((s i).first.floats, ((s i).first.wholes, ((s i).second.points, ((s i).second.ends, ((s i).second.floats, ((s i).second.wholes, tt))))))))))))))))))

pub fill_room_outcome : One fill_room_contract.ended fill_room.Reads.Learnt
fill_room_outcome κs a x y h k = both (room_one _ _ (one h k)) refl

-- ---- a job

pub parse_outcome : One parse_contract.ended parse.Reads.Learnt
parse_outcome κs a x y h k =
    let s = one h.0 k.0 in
    let bytes = a.0.now in
    let c = h.1.0 ∙ ap (λ (r : Parsed). Job·left r (Job·corners bytes) a.1.0.now) s ∙ sym k.1.0 in
    let e = h.1.1 ∙ ap (λ (r : Parsed). Job·left r (Job·ends bytes) a.1.1.0.now) s ∙ sym k.1.1 in
    both (parsed_one _ _ s) (λ i. (tt, (c i, (e i, tt))))

pub fill_job_outcome : One fill_job_contract.ended fill_job.Reads.Learnt
fill_job_outcome κs a x y h k = let s = left_parts (one h.0 k.0) in both (filled_one _ _ s.0) (λ i. (tt, (one h.1.0 k.1.0 i, (one h.1.1 k.1.1 i, (s.1 i, (s.2 i, (s.3 i, (s.4 i, tt))))))))

pub parse2_outcome : One parse2_contract.ended parse2.Reads.Learnt
parse2_outcome κs a x y h k =
    let s = one h.0 k.0 in
    let bytes = a.0.now in
    let c = h.1.0 ∙ ap (λ (r : Parsed2). left2 r (corners2 bytes) a.1.0.now) s ∙ sym k.1.0 in
    let e = h.1.1 ∙ ap (λ (r : Parsed2). left2 r (ends2 bytes) a.1.1.0.now) s ∙ sym k.1.1 in
    both (parsed2_one _ _ s) (λ i. (tt, (c i, (e i, tt))))

pub fill_job2_outcome : One fill_job2_contract.ended fill_job2.Reads.Learnt
fill_job2_outcome κs a x y h k =
    let s = one h.0 k.0 in
    both (twice_said _ _ (ap (λ (t : Twice). t.first.said) s) (ap (λ (t : Twice). t.second.said) s)) (λ i. (tt, (one h.1.0 k.1.0 i, (one h.1.1 k.1.1 i, ((s i).table, ((s i).places, ((s i).first.points, ((s i).first.ends, ((s i).first.floats, ((s i).first.wholes, ((s i).second.points, ((s i).second.ends, ((s i).second.floats, ((s i).second.wholes, tt))))))))))))))

-- ---- all that the program prints. `fill::answer` is a program's, which no other crate can name: its contract's words are written once more, and only reading holds them to the source

-- bytes m at the front of out, and their count
front_one : (m out : List ℕ) {r r' : ℕ} {o o' : List ℕ} → (r ≡ length m) × (o ≡ m ++ drop r out) → (r' ≡ length m) × (o' ≡ m ++ drop r' out) → (r ≡ r') × (o ≡ o')
front_one m out p q = let s = one p.0 q.0 in (s, p.1 ∙ ap (λ (r : ℕ). m ++ drop r out) s ∙ sym q.1)

pub printed_outcome : (bytes out : List ℕ) {r r' : ℕ} {o o' : List ℕ} → (r ≡ length (printed bytes)) × (o ≡ printed bytes ++ drop r out) → (r' ≡ length (printed bytes)) × (o' ≡ printed bytes ++ drop r' out) → (r ≡ r') × (o ≡ o')
printed_outcome bytes out = front_one (printed bytes) out

-- ---- for the machine

pub dst_outcome : One dst_contract.ended dst.Reads.Learnt
dst_outcome κs a x y h k = both (said_written_one _ _ (one h.0 k.0)) (λ i. (tt, (one h.1 k.1 i, tt)))

pub dst_read_outcome : One dst_read_contract.ended dst_read.Reads.Learnt
dst_read_outcome κs a x y h k = both (read_one _ _ (one h.0 k.0)) (λ i. (tt, (one h.1 k.1 i, (one h.2 k.2 i, tt))))

-- ---- broken outlines

pub salvage_outcome_lem : One salvage_contract.ended salvage.Reads.Learnt
salvage_outcome_lem κs a x y h k = let s = one h k in both (salvaged_one _ _ (ap (λ (o : SalvageOutcome). o.said) s)) (λ i. (tt, (tt, ((s i).corners, ((s i).ends, ((s i).places, ((s i).reasons, tt)))))))

-- ---- the sheet book

pub store_outcome : One store_contract.ended store.Reads.Learnt
store_outcome κs a x y h k = both (number_said _ _ (one h.0 k.0)) (λ i. (one h.1 k.1 i, (tt, (tt, tt))))

pub fetch_outcome : One fetch_contract.ended fetch.Reads.Learnt
fetch_outcome κs a x y h k = both (fetched_one _ _ (one h k)) refl

pub remove_outcome : One remove_contract.ended remove.Reads.Learnt
remove_outcome κs a x y h k = both (number_said _ _ (one h.0 k.0)) (λ i. (one h.1 k.1 i, (tt, tt)))
