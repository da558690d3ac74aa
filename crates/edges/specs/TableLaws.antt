-- Laws of the edge table. Assumes nothing.
use Rattle.std.specs.Prelude.{ℕ, zero, suc, ◌+◌, ◌*◌, ◌/◌, ◌≤◌, ◌<◌, ◌≡◌, refl, Bool, true, false, List, ◌∷◌, ◌++◌, map, length, take, drop, get_or, Float}
use Rattle.std.proofs.Common.{arith, ap, ◌∙◌, length-take-le, take-take}
use Rattle.std.specs.Simd.{first_chunks}
use Rattle.std.specs.Float.{nan}
use Rattle.std.specs.Float.Ieee.{lt}
use Rattle.numbers.specs.Num.{zero64}
use Rattle.seqs.specs.Lists.{each}
use Rattle.seqs.specs.Records.{Added}
use Rattle.seqs.specs.Slices.{blocks}
use Rattle.seqs.specs.Each.{each_length}
use Rattle.seqs.specs.Blocks.{blocks_length, blocks_read, blocks_past, blocks_kept, blocks_back}
use Rattle.rules.specs.declared.Edge.{Edge}
use Rattle.rules.specs.Fill.{edge, no_edge}
use Rattle.edges.specs.Table.{direction, edge_block, block_edge, edge_place, edges_in}

direction_back : (b : Bool) → lt zero64 (direction b) ≡ b
unfolding lt direction
direction_back true = refl
direction_back false = refl

back : (e : Edge) → block_edge (edge_block e) ≡ e
back e = rw (direction_back e.falls)

-- edges laid out are read back
pub edges_back : (es : List Edge) (rest : List Float) → edges_in (length es) (each edge_block es ++ rest) ≡ es
unfolding edges_in
edges_back es rest = blocks_back 5 block_edge edge_block (λ e. refl) back es rest

pub edges_length : (es : List Edge) → length (each edge_block es) ≡ 5 * length es
edges_length es = each_length edge_block 5 (λ e. refl) es

pub in_length : (n : ℕ) (l : List Float) → length (edges_in n l) ≡ n
unfolding edges_in
in_length n l = blocks_length 5 block_edge n l

-- edge i, as the code reads it
pub in_read : (n : ℕ) (l : List Float) (i : ℕ) → i < n → 5 * n ≤ length l
    → edge (edges_in n l) i ≡ record { y0 = get_or l (5 * i) nan; y1 = get_or l (5 * i + 1) nan; x0 = get_or l (5 * i + 2) nan; dxdy = get_or l (5 * i + 3) nan; falls = lt zero64 (get_or l (5 * i + 4) nan) }
unfolding edges_in
in_read n l i h k = blocks_read 5 block_edge n l nan i no_edge h k

pub in_past : (n : ℕ) (l : List Float) (i : ℕ) → n ≤ i → edge (edges_in n l) i ≡ no_edge
unfolding edges_in
in_past n l i h = blocks_past 5 block_edge n l i no_edge h

-- what is written behind the table leaves it as it is
pub in_kept : (n k : ℕ) (l m : List Float) → 5 * n ≤ k → take k l ≡ take k m → edges_in n l ≡ edges_in n m
unfolding edges_in
in_kept n k l m h e = blocks_kept 5 block_edge n k l m h e

-- the first n edges, read as chunks of five
chunked : (n : ℕ) (l : List Float) → map block_edge (first_chunks 5 n l) ≡ edges_in n l
unfolding edges_in blocks
chunked zero l = refl
chunked (suc n) l = ap (λ r. block_edge (take 5 l) ∷ r) (chunked n (drop 5 l))

pub chunks_in : (n : ℕ) (l : List Float) → 5 * n ≤ length l → {d : List (List Float)}
    → d ≡ first_chunks 5 (length (take (5 * n) l) / 5) (take (5 * n) l) → map block_edge d ≡ edges_in n l
chunks_in n l h e =
    let m : length (take (5 * n) l) / 5 ≡ n = omega (arith, length-take-le (5 * n) l h) in
    rw (e, m) (chunked n (take (5 * n) l) ∙ in_kept n (5 * n) (take (5 * n) l) l (omega arith) (take-take (5 * n) (5 * n) l (omega arith)))

-- the table that is built where there is room
pub built : {d d' : List Float} {r : ℕ} (es : List Edge) → Added edge_place edge_block d d' 0 r es → 5 * r ≤ length d → edges_in r d' ≡ es
built {d} {d'} {r} es a h =
    let n : r ≡ length es = omega (arith, a.count) in
    let w : d' ≡ each edge_block es ++ drop (5 * 0 + length (each edge_block es)) d = a.wrote.is (omega (arith, edges_length es, n)) in
    rw (n, w) (edges_back es (drop (5 * 0 + length (each edge_block es)) d))
