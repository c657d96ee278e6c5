-- The key of a frame: all that its picture depends on. A state file is continued for the same key alone.
use Rattle.std.specs.Prelude.{ℕ, ◌+◌, ◌≤◌, ◌^◌, List, [], ◌++◌, length, codes, ℤ, Option, Some, None}
use Rattle.std.specs.List.{flat_map, sum_by}
use Rattle.std.specs.Int.{w64, cast_unsigned}
use Rattle.byteorder.specs.Endian.{little_bytes}
use Rattle.directive_machine.specs.declared.flat.Source.{Source}
use Rattle.options.specs.declared.plan.Antialias.{Antialias}
use Rattle.options.specs.declared.plan.Plan.{Plan}
use Rattle.options.specs.Frames.{clock_of}

-- a raw number in eight bytes, in two's complement, the lowest byte first
abbrev pub raw_bytes : ℤ → List ℕ
raw_bytes z = little_bytes 8 (cast_unsigned w64 z)

-- bytes behind their count
abbrev pub counted_bytes : List ℕ → List ℕ
counted_bytes s = little_bytes 4 (length s) ++ s

-- a text, behind the name under which it was found
abbrev pub source_bytes : Source → List ℕ
source_bytes source = counted_bytes source.name ++ counted_bytes source.text

abbrev pub size_bytes : Plan → List ℕ
size_bytes plan = little_bytes 4 plan.width ++ little_bytes 4 plan.height

abbrev pub clock_bytes : Plan → ℕ → List ℕ
clock_bytes plan frame =
    raw_bytes (clock_of plan frame) ++ (raw_bytes plan.initial_clock ++ raw_bytes plan.final_clock)

abbrev pub frame_bytes : Plan → ℕ → List ℕ
frame_bytes plan frame = little_bytes 4 frame ++ (little_bytes 4 plan.first ++ little_bytes 4 plan.last)

abbrev pub antialias_bytes : Option Antialias → List ℕ
antialias_bytes None = []
antialias_bytes (Some antialias) = codes "AA" ++ (raw_bytes antialias.threshold ++ little_bytes 4 antialias.depth)

-- sizes, clocks, frame numbers, the texts with their names in the order of first reading, and supersampling where it is on
abbrev pub key_of : Plan → List Source → ℕ → List ℕ
key_of plan files frame =
    codes "POVFIX02" ++ (size_bytes plan ++ (clock_bytes plan frame ++ (frame_bytes plan frame
    ++ (little_bytes 4 (length files) ++ (flat_map source_bytes files ++ antialias_bytes plan.antialias)))))

-- what a text takes in the key
abbrev pub source_length : Source → ℕ
source_length source = length source.name + 8 + length source.text

-- the texts and their names take at most 2^24 bytes, as those of every expansion do
abbrev pub AreKept : List Source → Type 0
AreKept files = sum_by source_length files ≤ 2 ^ 24
