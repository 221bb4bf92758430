-- What the streams of an image stand for: their data (this project's choice).
use Rattle.x7_outcome.specs.Outcome.{ImageStreams}
use Rattle.x7_stream_forms.specs.declared.image.Streams.{Streams}
use Rattle.x7_outcome.specs.Stream.{data_from}

-- the data of a golden and of an update stream
abbrev pub streams_of : Streams → ImageStreams
streams_of s = record { golden = data_from s.golden; update = data_from s.update }
