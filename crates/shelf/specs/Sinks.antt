-- What a sink in memory shows.
use Rattle.std.specs.Prelude.{ℕ, List}
use Rattle.shelf.specs.declared.mem_sink.MemSink.{MemSink}

-- the bytes that it has taken
abbrev pub taken_by : MemSink → List ℕ
taken_by sink = sink.taken.items

-- how many bytes it can take in all
abbrev pub room_of : MemSink → ℕ
room_of sink = sink.room
