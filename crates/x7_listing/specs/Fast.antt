-- Definitions for lines that are listed or read several at a time (this project's choice). They may be skipped: no
-- clause of a public function cites one.
pub mod AtOnce
pub mod Looking
pub mod OnSheet
pub mod TakingAtOnce
