-- A pipeline as its fields hold it (this project's choice).
use Rattle.std.specs.Prelude.{◌≡◌, ℕ, ◌<◌, ◌≤◌, ◌==◌, true, if◌then◌else◌, List, Option, Some, None, vec_len, vec_capacity}
use Rattle.x7_part.specs.Limits.{most_address_width}
use Rattle.x7_pipeline.specs.declared.pipeline.Pipeline.TheInside.{Inside}
use Rattle.x7_pipeline.specs.Pipeline.{PipelineData}

-- the newest whole frame, where there is one
abbrev pub newest_seen : Inside → Option (List ℕ)
newest_seen p = if p.frame_count == 0 then None else Some p.newest.items

-- the frame that copies take, where there is one
abbrev pub source_seen : Inside → Option (List ℕ)
source_seen p = if p.has_source then Some p.source.items else None

-- all that a pipeline stores, as its fields hold it
abbrev pub pipeline_seen : Inside → PipelineData
pipeline_seen p = record {
  width = p.width;
  far_width = p.far_width;
  command = p.command;
  base = p.base;
  rest = p.rest.items;
  newest = newest_seen p;
  frame_count = p.frame_count;
  source = source_seen p;
  given = p.given;
  slot = p.slot;
}

-- A frame has a word at least, and an address 32 bits at most. The vectors of the rest, of the newest frame and of the
-- source have room for a frame each. The rest is shorter than a frame, and the newest frame and the source are whole
-- where there are such.
pub record HasFrameRoom (p : Inside) : Type 0 where
  pub some : 0 < p.width
  pub narrow : p.far_width ≤ most_address_width
  pub short : vec_len p.rest < p.width
  pub rest_room : p.width ≤ vec_capacity p.rest
  pub newest_room : p.width ≤ vec_capacity p.newest
  pub source_room : p.width ≤ vec_capacity p.source
  pub newest_whole : 0 < p.frame_count → vec_len p.newest ≡ p.width
  pub source_whole : p.has_source ≡ true → vec_len p.source ≡ p.width
