pub mod Explanations
pub mod Gaps
pub mod NetworkText
pub mod Offences
pub mod OneAnswer
pub mod Standings
pub mod WhyJson
pub mod inner
