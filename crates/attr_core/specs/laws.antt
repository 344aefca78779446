pub mod FormLaws
pub mod LabelBitsLaws
pub mod LabelWalkLaws
pub mod LabelsLaws
