-- The draft that is made of a laid-out body: it is laid out as that body, and it is not refused.
pub mod LaidDraft
pub mod KeptDraft
pub mod Origins
pub mod FormsAgain
pub mod ItemsAgain
pub mod RangesAgain
pub mod LabelsAgain
pub mod AssembledAgain
