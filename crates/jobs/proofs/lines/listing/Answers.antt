-- The head line, then all others. Assumes nothing.
use native.Mathlib.Omega.{arith}
use Rattle.jobs.proofs.Printed.{listed}
use Rattle.jobs.proofs.lines.listing.Goals as goal

pub put_sections-requires : goal.put_sections-requires
put_sections-requires c = (c.requires.0, c.requires.1, omega (arith, c.put_head-k.ensures.value.1, c.requires.2))

pub returns : goal.returns
returns c = let told = listed _ _ _ _ _ _ _ _ (omega (arith, c.put_head-k.ensures.value, c.requires.2)) c.put_head-k.ensures.put c.put_head-k.ensures.value.0 c.put_sections.ensures.put c.put_sections.ensures.value c.put_head-k.ensures.value.1 in record { out_after = told.0; value = told.1 }
