-- The satin settings, as a C entry is given their numbers. Definitions only.
use Rattle.std.specs.Prelude.{ℕ, Bool, cond, eqb, Float}
use Rattle.satinrules.specs.declared.Satin.{Satin}
use Rattle.satinrules.specs.declared.Style.{Style}
use Rattle.satinrules.specs.declared.Style.TheVariants.{Plain, SStitch, Zigzag}
use Rattle.satinrules.specs.Settings.{split_of}

-- 0 is plain, 1 the s form, any other number zigzag
abbrev pub style_of : ℕ → Style
style_of n = cond (eqb n 0) Plain (cond (eqb n 1) SStitch Zigzag)

-- a split of 0 is none
abbrev pub satin_of : Float → Float → ℕ → Float → Bool → Float → ℕ → Satin
satin_of spacing pull underlay run short split style = record { spacing = spacing; pull = pull; underlay = underlay; run_len = run; short_stitches = short; split = split_of split; style = style_of style }
