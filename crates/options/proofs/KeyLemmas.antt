-- The texts of a key, one after another, and how long a key is.
use Rattle.std.proofs.Common.{◌≡◌, ◌+◌, ◌*◌, ◌<◌, ◌≤◌, ◌^◌, ℕ, List, [], ◌∷◌, ◌++◌, length, get_or, take, codes, Option, Some, None, sym, ap, ◌∙◌, arith, refl}
use Rattle.std.specs.List.{flat_map, sum_by}
use Rattle.std.proofs.lemmas.List.{take_more, take_all, flat_map_more, length-append}
use Rattle.std.proofs.lemmas.List.Concat.{flat_map-cons}
use Rattle.std.proofs.lemmas.List.Sums.{sum_by-cons, get_or-le-sum_by}
use Rattle.byteorder.specs.Endian.{little_bytes}
use Rattle.byteorder.specs.Numbers.{length-bytes_low_first}
use Rattle.directive_machine.specs.declared.flat.Source.{Source}
use Rattle.options.specs.declared.plan.Antialias.{Antialias}
use Rattle.options.specs.declared.plan.Plan.{Plan}
use Rattle.options.specs.Keys.{source_bytes, counted_bytes, size_bytes, clock_bytes, frame_bytes, antialias_bytes, key_of, source_length, AreKept}

-- each text is within the whole
pub kept_each : (files : List Source) (i : ℕ) (x : Source) → AreKept files → i < length files → x ≡ get_or files i x → source_length x ≤ 2 ^ 24
kept_each files i x kept within is = omega (arith, get_or-le-sum_by source_length files i x within, ap source_length is, kept)

-- there are few texts
few : (files : List Source) → 8 * length files ≤ sum_by source_length files
few [] = omega arith
few (x ∷ files) = omega (arith, few files, sum_by-cons source_length x files)

pub few_kept : (files : List Source) → AreKept files → length files < 2 ^ 32
few_kept files kept = omega (arith, few files, kept)

-- a further text behind those before it
pub sources_more : (old out new : List ℕ) (files : List Source) (i : ℕ) (x : Source) → i < length files → x ≡ get_or files i x
    → out ≡ old ++ flat_map source_bytes (take i files) → new ≡ out ++ source_bytes x → new ≡ old ++ flat_map source_bytes (take (i + 1) files)
sources_more old out new files i x within is so_far further =
    further ∙ ap (λ o. o ++ source_bytes x) so_far ∙ flat_map_more source_bytes old (take i files) x
    ∙ ap (λ ys. old ++ flat_map source_bytes ys) (sym (take_more files i x within ∙ ap (λ y. take i files ++ y ∷ []) (sym is)))

pub sources_all : (old out : List ℕ) (files : List Source) (i : ℕ) → length files ≤ i
    → out ≡ old ++ flat_map source_bytes (take i files) → out ≡ old ++ flat_map source_bytes files
sources_all old out files i all so_far = so_far ∙ ap (λ ys. old ++ flat_map source_bytes ys) (take_all i files all)

-- ---- how long a key is

source_long : (x : Source) → length (source_bytes x) ≡ source_length x
source_long x =
    omega (
      arith,
      length-append (counted_bytes x.name) (counted_bytes x.text),
      length-append (little_bytes 4 (length x.name)) x.name,
      length-append (little_bytes 4 (length x.text)) x.text,
      length-bytes_low_first 0 4 (length x.name),
      length-bytes_low_first 0 4 (length x.text),
    )

texts_long : (files : List Source) → length (flat_map source_bytes files) ≡ sum_by source_length files
texts_long [] = refl
texts_long (x ∷ files) =
    omega (
      arith,
      ap length (flat_map-cons source_bytes x files),
      length-append (source_bytes x) (flat_map source_bytes files),
      source_long x,
      texts_long files,
      sum_by-cons source_length x files,
    )

antialias_long : (antialias : Option Antialias) → length (antialias_bytes antialias) ≤ 14
antialias_long None = omega arith
antialias_long (Some antialias) = omega arith

seven : (a b c d e f g : List ℕ) → length (a ++ (b ++ (c ++ (d ++ (e ++ (f ++ g)))))) ≡ length a + (length b + (length c + (length d + (length e + (length f + length g)))))
seven a b c d e f g =
    omega (
      arith,
      length-append a (b ++ (c ++ (d ++ (e ++ (f ++ g))))),
      length-append b (c ++ (d ++ (e ++ (f ++ g)))),
      length-append c (d ++ (e ++ (f ++ g))),
      length-append d (e ++ (f ++ g)),
      length-append e (f ++ g),
      length-append f g,
    )

-- a key of few bytes
pub key_most : (plan : Plan) (files : List Source) (frame : ℕ) (key : List ℕ) → AreKept files → key ≡ key_of plan files frame → length key ≤ 2 ^ 24 + 70
key_most plan files frame key kept is =
    omega (
      arith,
      ap length is,
      seven (codes "POVFIX02") (size_bytes plan) (clock_bytes plan frame) (frame_bytes plan frame) (little_bytes 4 (length files))
          (flat_map source_bytes files) (antialias_bytes plan.antialias),
      texts_long files,
      antialias_long plan.antialias,
      kept,
    )
