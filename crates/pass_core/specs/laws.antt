pub mod MeetingLaws
pub mod SurveyLaws
