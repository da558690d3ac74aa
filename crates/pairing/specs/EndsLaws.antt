-- Where a walk ends is its caller's own: rails whose running lengths are laid are in step up to any place. Assumes nothing.
use Rattle.geom.specs.declared.point.P.{P}
use Rattle.pairing.specs.declared.rails.Rails.{Rails}

-- the same rails, up to another place
pub up_to : Rails → P → Rails
up_to r ends = record { a = r.a; b = r.b; lengths = r.lengths; course = record { sync = r.course.sync; ends = ends }; laid = r.laid }
