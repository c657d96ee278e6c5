-- Entries of a map, one by one.
use Rattle.std.proofs.Common.{◌≡◌, ℕ, ℤ, ◌+◌, ◌<◌, List, ◌∷◌, drop, get_or, length, ap, sym, ◌∙◌, if◌then◌else◌}
use Rattle.std.specs.Prelude.{int_le}
use Rattle.std.proofs.lemmas.List.{drop_more}
use Rattle.scene_model.specs.declared.texture.Entry.{Entry}
use Rattle.pigment.specs.Maps.{between, from_entry}

pub next_entry : (entry next : Entry) (rest : List Entry) (i : ℕ) (v : ℤ) → i < length rest → next ≡ get_or rest i next → from_entry entry (drop i rest) v ≡ (if int_le next.at v then from_entry next (drop (i + 1) rest) v else between entry next v)
next_entry entry next rest i v lt is =
    let here : drop i rest ≡ next ∷ drop (i + 1) rest = drop_more rest i next lt ∙ ap (λ (e : Entry). e ∷ drop (i + 1) rest) (sym is) in
    ap (λ (entries : List Entry). from_entry entry entries v) here
