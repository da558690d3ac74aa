-- Any two outcomes that a C entry's contract allows are equal: one theorem for each entry of `exports`, `exports_fill` and `exports_other`. Assumes nothing.
use Rattle.std.specs.Prelude.{refl}
use Rattle.claims.specs.OneOutcome.{One, both, one}
use Rattle.exports.proofs.number.beahcerot_root
use Rattle.exports.proofs.number.beahcerot_floor
use Rattle.exports.proofs.number.beahcerot_ceil
use Rattle.exports.proofs.number.beahcerot_smaller
use Rattle.exports.proofs.number.beahcerot_larger
use Rattle.exports.proofs.number.beahcerot_magnitude
use Rattle.exports.proofs.number.beahcerot_before
use Rattle.exports.proofs.number.beahcerot_to_i64
use Rattle.exports.proofs.number.beahcerot_to_u64
use Rattle.exports.proofs.number.beahcerot_of_i64
use Rattle.exports.proofs.number.beahcerot_of_u64
use Rattle.exports.proofs.number.beahcerot_leaf_root
use Rattle.exports.proofs.number.beahcerot_leaf_floor
use Rattle.exports.proofs.number.beahcerot_leaf_ceil
use Rattle.exports.proofs.number.beahcerot_leaf_magnitude
use Rattle.exports.proofs.number.beahcerot_leaf_smaller
use Rattle.exports.proofs.number.beahcerot_leaf_larger
use Rattle.exports.proofs.number.beahcerot_leaf_order
use Rattle.exports.proofs.shape.beahcerot_dot
use Rattle.exports.proofs.shape.beahcerot_len
use Rattle.exports.proofs.shape.beahcerot_dist
use Rattle.exports.proofs.shape.beahcerot_cross
use Rattle.exports.proofs.shape.beahcerot_norm
use Rattle.exports.proofs.shape.beahcerot_perp
use Rattle.exports.proofs.shape.beahcerot_rotate
use Rattle.exports.proofs.shape.beahcerot_lerp
use Rattle.exports.proofs.shape.beahcerot_inside
use Rattle.exports.proofs.shape.beahcerot_winding
use Rattle.exports.proofs.shape.beahcerot_point_inside
use Rattle.exports.proofs.shape.beahcerot_segment_inside
use Rattle.exports.proofs.line.beahcerot_polyline_length
use Rattle.exports.proofs.line.beahcerot_resample_keep_corners
use Rattle.exports.proofs.line.beahcerot_running
use Rattle.exports_other.proofs.border.beahcerot_split_long
use Rattle.exports_other.proofs.border.beahcerot_s_stitch
use Rattle.exports_other.proofs.border.beahcerot_pairs
use Rattle.exports_other.proofs.border.beahcerot_pairs_room
use Rattle.exports_other.proofs.border.beahcerot_column
use Rattle.exports_other.proofs.border.beahcerot_underlay
use Rattle.exports_other.proofs.border.beahcerot_top
use Rattle.exports_other.proofs.border.beahcerot_column_room
use Rattle.exports_other.proofs.pattern.beahcerot_bounds
use Rattle.exports_other.proofs.pattern.beahcerot_clip_inside
use Rattle.exports_other.proofs.pattern.beahcerot_cross_stitch
use Rattle.exports_other.proofs.pattern.beahcerot_meander
use Rattle.exports_fill.proofs.fill.beahcerot_tatami
use Rattle.exports_fill.proofs.beneath.beahcerot_tatami_twice
use Rattle.exports_fill.proofs.beneath.beahcerot_fill_job2
use Rattle.exports_fill.proofs.fill.beahcerot_row_list
use Rattle.exports_fill.proofs.bench.beahcerot_plain_tatami
use Rattle.exports_fill.proofs.bench.beahcerot_plain_row_list
use Rattle.exports_fill.proofs.fill.beahcerot_fill_room
use Rattle.exports_fill.proofs.fill.beahcerot_fill_job
use Rattle.exports_other.proofs.machine.beahcerot_dst
use Rattle.exports_other.proofs.machine.beahcerot_dst_read
use Rattle.exports_other.proofs.mending.beahcerot_salvage
use Rattle.exports_other.proofs.sheets.beahcerot_book_store
use Rattle.exports_other.proofs.sheets.beahcerot_book_fetch
use Rattle.exports_other.proofs.sheets.beahcerot_book_remove
use Rattle.exports.specs.contracts.number.beahcerot_root as beahcerot_root_contract
use Rattle.exports.specs.contracts.number.beahcerot_floor as beahcerot_floor_contract
use Rattle.exports.specs.contracts.number.beahcerot_ceil as beahcerot_ceil_contract
use Rattle.exports.specs.contracts.number.beahcerot_smaller as beahcerot_smaller_contract
use Rattle.exports.specs.contracts.number.beahcerot_larger as beahcerot_larger_contract
use Rattle.exports.specs.contracts.number.beahcerot_magnitude as beahcerot_magnitude_contract
use Rattle.exports.specs.contracts.number.beahcerot_before as beahcerot_before_contract
use Rattle.exports.specs.contracts.number.beahcerot_to_i64 as beahcerot_to_i64_contract
use Rattle.exports.specs.contracts.number.beahcerot_to_u64 as beahcerot_to_u64_contract
use Rattle.exports.specs.contracts.number.beahcerot_of_i64 as beahcerot_of_i64_contract
use Rattle.exports.specs.contracts.number.beahcerot_of_u64 as beahcerot_of_u64_contract
use Rattle.exports.specs.contracts.number.beahcerot_leaf_root as beahcerot_leaf_root_contract
use Rattle.exports.specs.contracts.number.beahcerot_leaf_floor as beahcerot_leaf_floor_contract
use Rattle.exports.specs.contracts.number.beahcerot_leaf_ceil as beahcerot_leaf_ceil_contract
use Rattle.exports.specs.contracts.number.beahcerot_leaf_magnitude as beahcerot_leaf_magnitude_contract
use Rattle.exports.specs.contracts.number.beahcerot_leaf_smaller as beahcerot_leaf_smaller_contract
use Rattle.exports.specs.contracts.number.beahcerot_leaf_larger as beahcerot_leaf_larger_contract
use Rattle.exports.specs.contracts.number.beahcerot_leaf_order as beahcerot_leaf_order_contract
use Rattle.exports.specs.contracts.shape.beahcerot_dot as beahcerot_dot_contract
use Rattle.exports.specs.contracts.shape.beahcerot_len as beahcerot_len_contract
use Rattle.exports.specs.contracts.shape.beahcerot_dist as beahcerot_dist_contract
use Rattle.exports.specs.contracts.shape.beahcerot_cross as beahcerot_cross_contract
use Rattle.exports.specs.contracts.shape.beahcerot_norm as beahcerot_norm_contract
use Rattle.exports.specs.contracts.shape.beahcerot_perp as beahcerot_perp_contract
use Rattle.exports.specs.contracts.shape.beahcerot_rotate as beahcerot_rotate_contract
use Rattle.exports.specs.contracts.shape.beahcerot_lerp as beahcerot_lerp_contract
use Rattle.exports.specs.contracts.shape.beahcerot_inside as beahcerot_inside_contract
use Rattle.exports.specs.contracts.shape.beahcerot_winding as beahcerot_winding_contract
use Rattle.exports.specs.contracts.shape.beahcerot_point_inside as beahcerot_point_inside_contract
use Rattle.exports.specs.contracts.shape.beahcerot_segment_inside as beahcerot_segment_inside_contract
use Rattle.exports.specs.contracts.line.beahcerot_polyline_length as beahcerot_polyline_length_contract
use Rattle.exports.specs.contracts.line.beahcerot_resample_keep_corners as beahcerot_resample_keep_corners_contract
use Rattle.exports.specs.contracts.line.beahcerot_running as beahcerot_running_contract
use Rattle.exports_other.specs.contracts.border.beahcerot_split_long as beahcerot_split_long_contract
use Rattle.exports_other.specs.contracts.border.beahcerot_s_stitch as beahcerot_s_stitch_contract
use Rattle.exports_other.specs.contracts.border.beahcerot_pairs as beahcerot_pairs_contract
use Rattle.exports_other.specs.contracts.border.beahcerot_pairs_room as beahcerot_pairs_room_contract
use Rattle.exports_other.specs.contracts.border.beahcerot_column as beahcerot_column_contract
use Rattle.exports_other.specs.contracts.border.beahcerot_underlay as beahcerot_underlay_contract
use Rattle.exports_other.specs.contracts.border.beahcerot_top as beahcerot_top_contract
use Rattle.exports_other.specs.contracts.border.beahcerot_column_room as beahcerot_column_room_contract
use Rattle.exports_other.specs.contracts.pattern.beahcerot_bounds as beahcerot_bounds_contract
use Rattle.exports_other.specs.contracts.pattern.beahcerot_clip_inside as beahcerot_clip_inside_contract
use Rattle.exports_other.specs.contracts.pattern.beahcerot_cross_stitch as beahcerot_cross_stitch_contract
use Rattle.exports_other.specs.contracts.pattern.beahcerot_meander as beahcerot_meander_contract
use Rattle.exports_fill.specs.contracts.fill.beahcerot_tatami as beahcerot_tatami_contract
use Rattle.exports_fill.specs.contracts.beneath.beahcerot_tatami_twice as beahcerot_tatami_twice_contract
use Rattle.exports_fill.specs.contracts.beneath.beahcerot_fill_job2 as beahcerot_fill_job2_contract
use Rattle.exports_fill.specs.contracts.fill.beahcerot_row_list as beahcerot_row_list_contract
use Rattle.exports_fill.specs.contracts.bench.beahcerot_plain_tatami as beahcerot_plain_tatami_contract
use Rattle.exports_fill.specs.contracts.bench.beahcerot_plain_row_list as beahcerot_plain_row_list_contract
use Rattle.exports_fill.specs.contracts.fill.beahcerot_fill_room as beahcerot_fill_room_contract
use Rattle.exports_fill.specs.contracts.fill.beahcerot_fill_job as beahcerot_fill_job_contract
use Rattle.exports_other.specs.contracts.machine.beahcerot_dst as beahcerot_dst_contract
use Rattle.exports_other.specs.contracts.machine.beahcerot_dst_read as beahcerot_dst_read_contract
use Rattle.exports_other.specs.contracts.mending.beahcerot_salvage as beahcerot_salvage_contract
use Rattle.exports_other.specs.contracts.sheets.beahcerot_book_store as beahcerot_book_store_contract
use Rattle.exports_other.specs.contracts.sheets.beahcerot_book_fetch as beahcerot_book_fetch_contract
use Rattle.exports_other.specs.contracts.sheets.beahcerot_book_remove as beahcerot_book_remove_contract

-- ---- the numbers

pub root_entry : One beahcerot_root_contract.ended beahcerot_root.Reads.Learnt
root_entry κs a x y h k = both (one h k) refl

pub floor_entry : One beahcerot_floor_contract.ended beahcerot_floor.Reads.Learnt
floor_entry κs a x y h k = both (one h k) refl

pub ceil_entry : One beahcerot_ceil_contract.ended beahcerot_ceil.Reads.Learnt
ceil_entry κs a x y h k = both (one h k) refl

pub smaller_entry : One beahcerot_smaller_contract.ended beahcerot_smaller.Reads.Learnt
smaller_entry κs a x y h k = both (one h k) refl

pub larger_entry : One beahcerot_larger_contract.ended beahcerot_larger.Reads.Learnt
larger_entry κs a x y h k = both (one h k) refl

pub magnitude_entry : One beahcerot_magnitude_contract.ended beahcerot_magnitude.Reads.Learnt
magnitude_entry κs a x y h k = both (one h k) refl

pub before_entry : One beahcerot_before_contract.ended beahcerot_before.Reads.Learnt
before_entry κs a x y h k = both (one h k) refl

pub to_i64_entry : One beahcerot_to_i64_contract.ended beahcerot_to_i64.Reads.Learnt
to_i64_entry κs a x y h k = both (one h k) refl

pub to_u64_entry : One beahcerot_to_u64_contract.ended beahcerot_to_u64.Reads.Learnt
to_u64_entry κs a x y h k = both (one h k) refl

pub of_i64_entry : One beahcerot_of_i64_contract.ended beahcerot_of_i64.Reads.Learnt
of_i64_entry κs a x y h k = both (one h k) refl

pub of_u64_entry : One beahcerot_of_u64_contract.ended beahcerot_of_u64.Reads.Learnt
of_u64_entry κs a x y h k = both (one h k) refl

pub leaf_root_entry : One beahcerot_leaf_root_contract.ended beahcerot_leaf_root.Reads.Learnt
leaf_root_entry κs a x y h k = both (one h.0 k.0) (λ i. (tt, (one h.1 k.1 i, tt)))

pub leaf_floor_entry : One beahcerot_leaf_floor_contract.ended beahcerot_leaf_floor.Reads.Learnt
leaf_floor_entry κs a x y h k = both (one h.0 k.0) (λ i. (tt, (one h.1 k.1 i, tt)))

pub leaf_ceil_entry : One beahcerot_leaf_ceil_contract.ended beahcerot_leaf_ceil.Reads.Learnt
leaf_ceil_entry κs a x y h k = both (one h.0 k.0) (λ i. (tt, (one h.1 k.1 i, tt)))

pub leaf_magnitude_entry : One beahcerot_leaf_magnitude_contract.ended beahcerot_leaf_magnitude.Reads.Learnt
leaf_magnitude_entry κs a x y h k = both (one h.0 k.0) (λ i. (tt, (one h.1 k.1 i, tt)))

pub leaf_smaller_entry : One beahcerot_leaf_smaller_contract.ended beahcerot_leaf_smaller.Reads.Learnt
leaf_smaller_entry κs a x y h k = both (one h.0 k.0) (λ i. (tt, (tt, (one h.1 k.1 i, tt))))

pub leaf_larger_entry : One beahcerot_leaf_larger_contract.ended beahcerot_leaf_larger.Reads.Learnt
leaf_larger_entry κs a x y h k = both (one h.0 k.0) (λ i. (tt, (tt, (one h.1 k.1 i, tt))))

pub leaf_order_entry : One beahcerot_leaf_order_contract.ended beahcerot_leaf_order.Reads.Learnt
leaf_order_entry κs a x y h k = both (one h.0 k.0) (λ i. (tt, (tt, (one h.1 k.1 i, tt))))

-- ---- points and outlines

pub dot_entry : One beahcerot_dot_contract.ended beahcerot_dot.Reads.Learnt
dot_entry κs a x y h k = both (one h.0 k.0) (λ i. (tt, (tt, (tt, (tt, (one h.1 k.1 i, tt))))))

pub len_entry : One beahcerot_len_contract.ended beahcerot_len.Reads.Learnt
len_entry κs a x y h k = both (one h.0 k.0) (λ i. (tt, (tt, (one h.1 k.1 i, tt))))

pub dist_entry : One beahcerot_dist_contract.ended beahcerot_dist.Reads.Learnt
dist_entry κs a x y h k = both (one h.0 k.0) (λ i. (tt, (tt, (tt, (tt, (one h.1 k.1 i, tt))))))

pub cross_entry : One beahcerot_cross_contract.ended beahcerot_cross.Reads.Learnt
cross_entry κs a x y h k = both (one h.0 k.0) (λ i. (tt, (tt, (tt, (tt, (one h.1 k.1 i, tt))))))

pub norm_entry : One beahcerot_norm_contract.ended beahcerot_norm.Reads.Learnt
norm_entry κs a x y h k = both (one h.0 k.0) (λ i. (tt, (tt, (one h.1 k.1 i, (one h.2 k.2 i, tt)))))

pub perp_entry : One beahcerot_perp_contract.ended beahcerot_perp.Reads.Learnt
perp_entry κs a x y h k = both (one h.0 k.0) (λ i. (tt, (tt, (one h.1 k.1 i, (one h.2 k.2 i, tt)))))

pub rotate_entry : One beahcerot_rotate_contract.ended beahcerot_rotate.Reads.Learnt
rotate_entry κs a x y h k = both (one h.0 k.0) (λ i. (tt, (tt, (tt, (tt, (one h.1 k.1 i, (one h.2 k.2 i, tt)))))))

pub lerp_entry : One beahcerot_lerp_contract.ended beahcerot_lerp.Reads.Learnt
lerp_entry κs a x y h k = both (one h.0 k.0) (λ i. (tt, (tt, (tt, (tt, (tt, (one h.1 k.1 i, (one h.2 k.2 i, tt))))))))

pub inside_entry : One beahcerot_inside_contract.ended beahcerot_inside.Reads.Learnt
inside_entry κs a x y h k = both (one h k) refl

pub winding_entry : One beahcerot_winding_contract.ended beahcerot_winding.Reads.Learnt
winding_entry κs a x y h k = both (one h.0 k.0) (λ i. (tt, (tt, (tt, (tt, (one h.1 k.1 i, tt))))))

pub point_inside_entry : One beahcerot_point_inside_contract.ended beahcerot_point_inside.Reads.Learnt
point_inside_entry κs a x y h k = both (one h.0 k.0) (λ i. (tt, (tt, (tt, (tt, (tt, (one h.1 k.1 i, tt)))))))

pub segment_inside_entry : One beahcerot_segment_inside_contract.ended beahcerot_segment_inside.Reads.Learnt
segment_inside_entry κs a x y h k = both (one h.0 k.0) (λ i. (tt, (tt, (tt, (tt, (tt, (tt, (tt, (tt, (one h.1 k.1 i, tt))))))))))

-- ---- lines

pub polyline_length_entry : One beahcerot_polyline_length_contract.ended beahcerot_polyline_length.Reads.Learnt
polyline_length_entry κs a x y h k = both (one h.0 k.0) (λ i. (tt, (one h.1 k.1 i, tt)))

pub resample_keep_corners_entry : One beahcerot_resample_keep_corners_contract.ended beahcerot_resample_keep_corners.Reads.Learnt
resample_keep_corners_entry κs a x y h k = both (one h.0 k.0) (λ i. (tt, (tt, (one h.2 k.2 i, (one h.1 k.1 i, tt)))))

pub running_entry : One beahcerot_running_contract.ended beahcerot_running.Reads.Learnt
running_entry κs a x y h k = both (one h.0 k.0) (λ i. (tt, (tt, (tt, (tt, (one h.2 k.2 i, (one h.1 k.1 i, tt)))))))

-- ---- satin

pub split_long_entry : One beahcerot_split_long_contract.ended beahcerot_split_long.Reads.Learnt
split_long_entry κs a x y h k = both (one h.0 k.0) (λ i. (tt, (tt, (one h.2 k.2 i, (one h.1 k.1 i, tt)))))

pub s_stitch_entry : One beahcerot_s_stitch_contract.ended beahcerot_s_stitch.Reads.Learnt
s_stitch_entry κs a x y h k = both (one h.0 k.0) (λ i. (tt, (one h.2 k.2 i, (one h.1 k.1 i, tt))))

pub pairs_entry : One beahcerot_pairs_contract.ended beahcerot_pairs.Reads.Learnt
pairs_entry κs a x y h k = both (one h.0 k.0) (λ i. (tt, (tt, (tt, (tt, (one h.3 k.3 i, (one h.2 k.2 i, (one h.1 k.1 i, tt))))))))

pub pairs_room_entry : One beahcerot_pairs_room_contract.ended beahcerot_pairs_room.Reads.Learnt
pairs_room_entry κs a x y h k = both (one h.0 k.0) (λ i. (tt, (tt, (tt, (tt, (one h.1 k.1 i, tt))))))

pub column_entry : One beahcerot_column_contract.ended beahcerot_column.Reads.Learnt
column_entry κs a x y h k = both (one h.0 k.0) (λ i. (tt, (tt, (tt, (tt, (tt, (tt, (tt, (tt, (tt, (tt, (one h.3 k.3 i, (one h.2 k.2 i, (one h.1 k.1 i, tt))))))))))))))

pub underlay_entry : One beahcerot_underlay_contract.ended beahcerot_underlay.Reads.Learnt
underlay_entry κs a x y h k = both (one h.0 k.0) (λ i. (tt, (tt, (tt, (tt, (tt, (tt, (tt, (tt, (tt, (tt, (one h.4 k.4 i, (one h.3 k.3 i, (one h.1 k.1 i, (one h.2 k.2 i, tt)))))))))))))))

pub top_entry : One beahcerot_top_contract.ended beahcerot_top.Reads.Learnt
top_entry κs a x y h k = both (one h.0 k.0) (λ i. (tt, (tt, (tt, (tt, (tt, (tt, (tt, (tt, (tt, (tt, (tt, (one h.3 k.3 i, (one h.2 k.2 i, (one h.1 k.1 i, tt)))))))))))))))

pub column_room_entry : One beahcerot_column_room_contract.ended beahcerot_column_room.Reads.Learnt
column_room_entry κs a x y h k = both (one h.0 k.0) (λ i. (tt, (tt, (tt, (tt, (tt, (tt, (tt, (tt, (tt, (tt, (one h.1 k.1 i, tt))))))))))))

-- ---- patterns

pub bounds_entry : One beahcerot_bounds_contract.ended beahcerot_bounds.Reads.Learnt
bounds_entry κs a x y h k = both (one h.0 k.0) (λ i. (tt, (tt, (one h.1 k.1 i, (one h.2 k.2 i, (one h.3 k.3 i, (one h.4 k.4 i, tt)))))))

pub clip_inside_entry : One beahcerot_clip_inside_contract.ended beahcerot_clip_inside.Reads.Learnt
clip_inside_entry κs a x y h k = both (one h.0 k.0) (λ i. (tt, (tt, (tt, (tt, (one h.3 k.3 i, (one h.4 k.4 i, (one h.1 k.1 i, (one h.2 k.2 i, tt)))))))))

pub cross_stitch_entry : One beahcerot_cross_stitch_contract.ended beahcerot_cross_stitch.Reads.Learnt
cross_stitch_entry κs a x y h k = both (one h.0 k.0) (λ i. (tt, (tt, (tt, (tt, (one h.3 k.3 i, (one h.4 k.4 i, (one h.1 k.1 i, (one h.2 k.2 i, tt)))))))))

pub meander_entry : One beahcerot_meander_contract.ended beahcerot_meander.Reads.Learnt
meander_entry κs a x y h k = both (one h.0 k.0) (λ i. (tt, (tt, (tt, (tt, (tt, (tt, (one h.3 k.3 i, (one h.4 k.4 i, (one h.5 k.5 i, (one h.1 k.1 i, (one h.2 k.2 i, tt))))))))))))

-- ---- the fill

pub tatami_entry : One beahcerot_tatami_contract.ended beahcerot_tatami.Reads.Learnt
tatami_entry κs a x y h k = let s = one h k in λ i. ((s i).said.answer, (tt, (tt, (tt, (tt, (tt, (tt, (tt, (tt, (tt, (tt, (tt, ((s i).floats, ((s i).wholes, ((s i).points, ((s i).ends, ((s i).said.sections, ((s i).said.points, tt))))))))))))))))))

pub row_list_entry : One beahcerot_row_list_contract.ended beahcerot_row_list.Reads.Learnt
row_list_entry κs a x y h k = let s = one h k in λ i. ((s i).said.answer, (tt, (tt, (tt, (tt, (tt, (tt, (tt, (tt, (tt, (tt, (tt, ((s i).floats, ((s i).wholes, ((s i).ys, ((s i).rows, ((s i).sections, ((s i).said.pieces, tt))))))))))))))))))

pub plain_tatami_entry : One beahcerot_plain_tatami_contract.ended beahcerot_plain_tatami.Reads.Learnt
plain_tatami_entry κs a x y h k = let s = one h k in λ i. ((s i).said.answer, (tt, (tt, (tt, (tt, (tt, (tt, (tt, (tt, (tt, (tt, (tt, ((s i).floats, ((s i).wholes, ((s i).points, ((s i).ends, ((s i).said.sections, ((s i).said.points, tt))))))))))))))))))

pub plain_row_list_entry : One beahcerot_plain_row_list_contract.ended beahcerot_plain_row_list.Reads.Learnt
plain_row_list_entry κs a x y h k = let s = one h k in λ i. ((s i).said.answer, (tt, (tt, (tt, (tt, (tt, (tt, (tt, (tt, (tt, (tt, (tt, ((s i).floats, ((s i).wholes, ((s i).ys, ((s i).rows, ((s i).sections, ((s i).said.pieces, tt))))))))))))))))))

pub tatami_twice_entry : One beahcerot_tatami_twice_contract.ended beahcerot_tatami_twice.Reads.Learnt
tatami_twice_entry κs a x y h k =
    let s = one h k in
    λ i. ((s i).first.said.answer, (tt, (tt, (tt, (tt, (tt, (tt, (tt, (tt, (tt, (tt, (tt, (tt, (tt, (tt, (tt, (tt, (tt, ((s i).table, ((s i).places, ((s i).first.floats, ((s i).first.wholes, ((s i).first.points, ((s i).first.ends, ((s i).second.floats, ((s i).second.wholes, ((s i).second.points, ((s i).second.ends, ((s i).first.said.sections, ((s i).first.said.points, ((s i).second.said.answer, ((s i).second.said.sections, ((s i).second.said.points, tt)))))))))))))))))))))))))))))))))

pub fill_room_entry : One beahcerot_fill_room_contract.ended beahcerot_fill_room.Reads.Learnt
fill_room_entry κs a x y h k = both (one h.0 k.0) (λ i. (tt, (tt, (tt, (tt, (tt, (tt, (tt, (tt, (tt, (one h.1 k.1 i, (one h.2 k.2 i, tt))))))))))))

pub fill_job_entry : One beahcerot_fill_job_contract.ended beahcerot_fill_job.Reads.Learnt
fill_job_entry κs a x y h k = let s = one h.0 k.0 in λ i. ((s i).said.answer, (tt, (one h.1.0 k.1.0 i, (one h.1.1 k.1.1 i, ((s i).floats, ((s i).wholes, ((s i).points, ((s i).ends, ((s i).said.sections, ((s i).said.points, tt))))))))))

pub fill_job2_entry : One beahcerot_fill_job2_contract.ended beahcerot_fill_job2.Reads.Learnt
fill_job2_entry κs a x y h k =
    let s = one h.0 k.0 in
    λ i. ((s i).first.said.answer, (tt, (one h.1.0 k.1.0 i, (one h.1.1 k.1.1 i, ((s i).table, ((s i).places, ((s i).first.floats, ((s i).first.wholes, ((s i).first.points, ((s i).first.ends, ((s i).second.floats, ((s i).second.wholes, ((s i).second.points, ((s i).second.ends, ((s i).first.said.sections, ((s i).first.said.points, ((s i).second.said.answer, ((s i).second.said.sections, ((s i).second.said.points, tt)))))))))))))))))))

-- ---- for the machine

pub dst_entry : One beahcerot_dst_contract.ended beahcerot_dst.Reads.Learnt
dst_entry κs a x y h k = both (one h.0 k.0) (λ i. (tt, (one h.2 k.2 i, (one h.1 k.1 i, tt))))

pub dst_read_entry : One beahcerot_dst_read_contract.ended beahcerot_dst_read.Reads.Learnt
dst_read_entry κs a x y h k = both (one h.0 k.0) (λ i. (tt, (one h.3 k.3 i, (one h.4 k.4 i, (one h.1 k.1 i, (one h.2 k.2 i, tt))))))

-- ---- broken outlines

pub salvage_entry : One beahcerot_salvage_contract.ended beahcerot_salvage.Reads.Learnt
salvage_entry κs a x y h k = let s = one h k in λ i. ((s i).said.answer, (tt, (tt, ((s i).corners, ((s i).ends, ((s i).places, ((s i).reasons, ((s i).said.corners, ((s i).said.dropped, tt)))))))))

-- ---- the sheet book

pub book_store_entry : One beahcerot_book_store_contract.ended beahcerot_book_store.Reads.Learnt
book_store_entry κs a x y h k = both (one h.0 k.0) (λ i. (one h.1 k.1 i, (tt, (tt, (tt, (tt, (tt, (tt, tt))))))))

pub book_fetch_entry : One beahcerot_book_fetch_contract.ended beahcerot_book_fetch.Reads.Learnt
book_fetch_entry κs a x y h k = both (one h.0 k.0) (λ i. (tt, (tt, (one h.1 k.1 i, (one h.2 k.2 i, (one h.3 k.3 i, (one h.4 k.4 i, (one h.5 k.5 i, tt))))))))

pub book_remove_entry : One beahcerot_book_remove_contract.ended beahcerot_book_remove.Reads.Learnt
book_remove_entry κs a x y h k = both (one h.0 k.0) (λ i. (one h.1 k.1 i, (tt, tt)))
