pub mod KindTableLaws
