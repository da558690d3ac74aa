-- What the two fills over one table answer and leave (Layers), what the stages hand on (Stages), and the laws that join them; Alone has the theorem that a caller wants, Examples what computes.
pub mod Layers
pub mod Stages
pub mod LayerLaws
pub mod Outcomes
pub mod Alone
pub mod Examples
pub mod Table
pub mod TableLaws
pub mod WayLaws
