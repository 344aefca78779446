mod CompareLaws
mod LengthLaws
mod PlaceLaws
mod RangeLaws
mod TextRows
