use Rattle.std.proofs.Common.{◌≡◌, ◌≤◌, ℕ, ◌-◌, List, ◌++◌, length, take, drop, sym, ap, ◌∙◌, arith, append_assoc, take-append-drop, length-take, length-drop}
use Rattle.std.proofs.lemmas.List.{take_rest}
use Rattle.std.proofs.KnownBytes.{Appends-trans}
use Rattle.shelf.proofs.std_sink.write_whole.Goals as goal

-- a front of the rest moves behind what is done
moves_front : (all done rest : List ℕ) (n : ℕ) → all ≡ done ++ rest → all ≡ (done ++ take n rest) ++ take (length rest - n) (drop n rest)
moves_front all done rest n e =
    e ∙ ap (λ l. done ++ l) (sym (take-append-drop n rest)) ∙ sym (append_assoc done (take n rest) (drop n rest)) ∙ ap (λ l. (done ++ take n rest) ++ l) (sym (take_rest rest n))

-- what is left is no longer than the rest was
left_short : (rest : List ℕ) (n : ℕ) → length (take (length rest - n) (drop n rest)) ≤ length rest
left_short rest n = omega (arith, length-take (length rest - n) (drop n rest), length-drop n rest)

pub loop-rest-preserved : goal.loop-rest-preserved
loop-rest-preserved g c =
    let (done, split, appended) = c.loop-rest.invariant.gone in
    let rest = c.loop-rest.rest.now in
    let n = c.in-Ok.taken in
    record {
      gone = (done ++ take n rest, moves_front _ done rest n split, Appends-trans _ _ _ _ _ appended c.in-Ok.ensures.bytes);
      short = omega (arith, left_short rest n, c.loop-rest.invariant.short);
    }
