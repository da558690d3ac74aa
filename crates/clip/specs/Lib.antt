-- Clipping point by point (Clip), and that it gives the runs of the definition (ClipLaws).
pub mod Clip
pub mod ClipLaws
pub mod LineLaws
