-- What all words ask for is in a plan's ranges.
use Rattle.std.proofs.Common.{◌≡◌, ◌≤◌, ◌<◌, ◌-◌, ◌*◌, Bool, true, false, length, sym, subst, refl, arith, IfSome}
use Rattle.std.specs.Prelude.{◌==◌, Some, None, if◌then◌else◌}
use Rattle.std.proofs.lemmas.Bool.Decides.{nat_tests}
use Rattle.image_out.specs.declared.picture.Sort.{Sort}
use Rattle.image_out.specs.declared.picture.Sort.TheVariants.{Ppm, Targa, TargaRle}
use Rattle.options.specs.declared.table.Bits.{Bits}
use Rattle.options.specs.declared.draft.Numbers.{Numbers}
use Rattle.options.specs.declared.draft.Draft.{Draft}
use Rattle.options.specs.declared.plan.Antialias.{Antialias}
use Rattle.options.specs.declared.plan.Plan.{Plan}
use Rattle.options.specs.Drafts.{IsDraft}
use Rattle.options.specs.Plans.{from_of, to_of, is_in_range, bits_of, bits_fit, plan_by, IsAntialias, IsPlan}

-- the tests of frames and pixels, one by one
record AreInRange (numbers : Numbers) : Type 0 where
  from : numbers.first ≤ from_of numbers
  to : to_of numbers ≤ numbers.last
  row : from_of numbers ≤ to_of numbers
  count : to_of numbers - from_of numbers < 10000
  pixels : numbers.width * numbers.height ≤ 16777216

tests : (numbers : Numbers) → is_in_range numbers ≡ true → AreInRange numbers
tests numbers e = record {
  from = grind (arith, nat_tests);
  to = grind (arith, nat_tests);
  row = grind (arith, nat_tests);
  count = grind (arith, nat_tests);
  pixels = grind (arith, nat_tests);
}

bits_kept : (sort : Sort) (bits : Bits) → bits_fit sort (bits_of sort bits) ≡ true
bits_kept Ppm Bits.Eight = refl
bits_kept Ppm Bits.Sixteen = refl
bits_kept Targa bits = refl
bits_kept TargaRle bits = refl

smooth_kept : (smooth : Bool) (antialias : Antialias) → IsAntialias antialias → IfSome (if smooth then Some antialias else None) IsAntialias
smooth_kept true antialias kept = kept
smooth_kept false antialias kept = tt

kept : (draft : Draft) → IsDraft draft → (length draft.input == 0) ≡ false → AreInRange draft.numbers → IsPlan (plan_by draft)
kept draft sound named inside = record {
  input = grind (arith, nat_tests);
  generate = sound.numbers.generate;
  width = sound.numbers.width;
  height = sound.numbers.height;
  pixels = inside.pixels;
  bits = bits_kept draft.numbers.sort draft.numbers.bits;
  antialias = smooth_kept draft.numbers.smooth (record { threshold = draft.numbers.threshold; depth = draft.numbers.depth })
      (sound.numbers.threshold, sound.numbers.depth.0, sound.numbers.depth.1);
  workers = sound.numbers.workers;
  libraries = sound.libraries;
  clock = sound.numbers.clock;
  initial_clock = sound.numbers.initial_clock;
  final_clock = sound.numbers.final_clock;
  single = sound.numbers.single;
  first = sound.numbers.first.0;
  from = inside.from;
  row = inside.row;
  to = inside.to;
  last = sound.numbers.last.1;
  count = inside.count;
}

pub in_ranges : (draft : Draft) (plan : Plan) → IsDraft draft → (length draft.input == 0) ≡ false → is_in_range draft.numbers ≡ true → plan ≡ plan_by draft → IsPlan plan
in_ranges draft plan sound named inside is = subst IsPlan (sym is) (kept draft sound named (tests draft.numbers inside))
