mod HistoryLaws
mod LineLaws
mod WordLaws
