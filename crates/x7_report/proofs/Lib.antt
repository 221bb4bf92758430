mod DigitLemmas
mod LinesLemmas
mod ReportLemmas
