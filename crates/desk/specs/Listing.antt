-- What the program `fill` prints, from a job's bytes. Definitions only.
use Rattle.std.specs.Prelude.{ℕ, ◌≤◌, ◌≡◌, ◌&&◌, cond, List, ◌++◌, leb, eqb, length, take, replicate, Float}
use Rattle.numbers.specs.Num.{zero64}
use Rattle.jobs.specs.Job.{byte}
use Rattle.jobs.specs.Text.{listing, Ends}
use Rattle.tatami.specs.Left.{Filled, Left}
use Rattle.layers.specs.Layers.{Slices, slices, Twice}
use Rattle.desk.specs.Desk.{job_left}
use Rattle.desk.specs.Desk2.{job2_left}

-- the listing of what a job leaves
abbrev pub listing_of : Left → List ℕ
listing_of l = listing l.said.answer l.said.sections l.said.points l.points l.ends

-- the program lends a fill 4,096 points, 512 sections and 8,192 of each working kind
abbrev pub lent : Slices
lent = slices (replicate 8192 zero64) (replicate 512 0) (replicate 8192 zero64) (replicate 8192 0)

-- and 2,048 floats and 255 ends for the outline
abbrev pub lent_left : List ℕ → Left
lent_left s = job_left s 2048 255 lent.points lent.stops lent.floats lent.wholes

-- for a version 2 job each fill as a lone one, and the table as much as a fill's working slices
abbrev pub lent_left2 : List ℕ → Twice
lent_left2 s = job2_left s 2048 255 lent lent lent.floats lent.wholes

-- one listing, and the first fill's and then the second's where the version byte is there and is 2
unfoldable pub printed1 : List ℕ → List ℕ
printed1 s = listing_of (lent_left s)

unfoldable pub printed2 : List ℕ → List ℕ
printed2 s = listing_of (lent_left2 s).first ++ listing_of (lent_left2 s).second

unfoldable pub printed : List ℕ → List ℕ
printed s = cond (leb 5 (length s) && eqb (byte 4 s) 2) (printed2 s) (printed1 s)

-- what the listing reads is there
pub record Told (l : Left) : Type 0 where
  pub sections : l.said.sections ≤ length l.ends
  pub ends : Ends l.points 0 (take l.said.sections l.ends)

-- what a fill said and its outputs, of what it leaves
abbrev pub Seen : Filled → List Float → List ℕ → Left → Type 0
Seen r points stops l = (r ≡ l.said) × (points ≡ l.points) × (stops ≡ l.ends)
