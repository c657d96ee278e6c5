use Rattle.std.proofs.Common.{◌≡◌, ◌*◌, ◌+◌, ◌<◌, length, subst, true, inl, inr, sym, ◌∙◌, arith, set, slice_index, slice_index_or, take}
use Rattle.std.proofs.lemmas.Bool.{cases_eq}
use Rattle.std.proofs.lemmas.List.{get_or-set_same, get_or-set_other}
use Rattle.shelf.specs.Picks.{byte_by}
use Rattle.shelf.proofs.FileLemmas.{same_in_front, same_byte}
use Rattle.shelf.proofs.mem_file.choose.Goals as goal

pub loop-place-preserved : goal.loop-place-preserved
loop-place-preserved c =
    let l = c.loop-place in
    let inv = l.invariant in
    let inside : l.place < length l.buffer.items = omega (arith, l.buffer.ok, inv.long, c.loop-place-test.true, c.requires.room) in
    let at_place : slice_index (set l.buffer.items l.place c.byte_of-byte.result) l.place ≡ byte_by (slice_index_or c.args.touched.now l.place true) (slice_index c.args.synced.now l.place)
    (slice_index (take c.args.len c.args.buffer.now.items) l.place) (slice_index c.args.picks.now (2 * l.place)) (slice_index c.args.picks.now (2 * l.place + 1)) =
    get_or-set_same l.buffer.items l.place c.byte_of-byte.result 0 inside ∙ c.byte_of-byte.ensures
    ∙ same_byte _ _ _ _ _ _ _ _ _ _ c.is_touched.ensures c.pick-was.ensures
    (c.read_at-now.ensures ∙ same_in_front c.args.len l.place l.buffer.items c.args.buffer.now.items (inv.others l.place (omega arith)))
    c.pick-how.ensures c.pick-value.ensures in
    record {
      long = inv.long;
      bytes = λ k lt. elim (cases_eq k l.place) [
        | inl a ↦ subst
            (λ j. slice_index (set l.buffer.items l.place c.byte_of-byte.result) j ≡ byte_by (slice_index_or c.args.touched.now j true) (slice_index c.args.synced.now j)
            (slice_index (take c.args.len c.args.buffer.now.items) j) (slice_index c.args.picks.now (2 * j)) (slice_index c.args.picks.now (2 * j + 1)))
            (sym a) at_place
        | inr a ↦ get_or-set_other l.buffer.items l.place k c.byte_of-byte.result 0 a ∙ inv.bytes k (omega (arith, lt, a))
      ];
      others = λ k ge. get_or-set_other l.buffer.items l.place k c.byte_of-byte.result 0 (λ e. omega (arith, ge, e)) ∙ inv.others k (omega (arith, ge));
    }
