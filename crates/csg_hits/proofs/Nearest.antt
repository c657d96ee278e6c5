-- A search that has asked all pieces has found the nearest hit.
use lib.Dec.{eqb}
use Rattle.std.proofs.Common.{ℕ, suc, ◌+◌, ◌-◌, ◌<◌, ◌≤◌, ◌≡◌, Bool, true, Option, Some, None, List, [], ◌∷◌, length, slice_get, IfSome, refl, sym, subst, ◌∙◌, ⊎_elim, arith}
use Rattle.std.specs.List.{list_any}
use Rattle.std.proofs.lemmas.Bool.{false≢true, and_parts, cases_lt, eqb-true, or_cases}
use Rattle.std.proofs.lemmas.Option.{none-some, slice_get_within}
use Rattle.scene_model.specs.declared.scene.Object.{Object}
use Rattle.scene_model.specs.declared.shape.Leaf.{Leaf}
use Rattle.shapes.specs.declared.ray.Ray.{Ray}
use Rattle.csg_hits.specs.declared.asking.Found.{Found}
use Rattle.csg_hits.specs.declared.asking.Search.{Search}
use Rattle.csg_hits.specs.declared.built.Built.{Built}
use Rattle.csg_hits.specs.declared.piece.Piece.{Piece}
use Rattle.csg_hits.specs.declared.world.Hit.{Hit}
use Rattle.csg_hits.specs.Hits.{IsHit, IsNearest}
use Rattle.csg_hits.specs.Pieces.{any_strikes, is_piece_struck, object_struck, owner_of, piece_struck, strikes_for, strikes_of}
use Rattle.csg_hits.specs.Ready.{pieces_in, surfaces_in}
use Rattle.csg_hits.specs.Searches.{IsBeaten, IsDone, IsStrike}
use Rattle.csg_hits.specs.Surfaces.{Surfaces, is_struck, struck_of, face_at, enters_at, leaf_on}

-- where a test passes in a list
found_in : {A : Type 0} (p : A → Bool) (xs : List A) → list_any p xs ≡ true → (k : ℕ) × (x : A) × (slice_get xs k ≡ Some x) × (p x ≡ true)
found_in p [] h = absurd (false≢true h)
found_in p (x ∷ xs) h = ⊎_elim
    (λ e. (0, x, refl, e))
    (λ r. let m = found_in p xs r in (suc m.0, m.1, m.2, m.3))
    (or_cases (p x) (list_any p xs) h)

-- an object of a scene that is kept is struck where one of its pieces is
by_leaves : (leaves : List Leaf) (objects : List Object) (ray : Ray) (shadow : Bool) (t i leaf : ℕ) (o : Option Object) → struck_of (record { leaves = leaves; objects = objects; sheets = [] }) ray shadow t i leaf o ≡ object_struck (leaf_on leaves ray t) shadow leaf o
by_leaves leaves objects ray shadow t i leaf None = refl
by_leaves leaves objects ray shadow t i leaf (Some o) = refl

by_pieces : (built : Built) (ray : Ray) (shadow : Bool) (t object leaf : ℕ) → is_struck (surfaces_in built) ray shadow t object leaf ≡ any_strikes (leaf_on (pieces_in built).leaves ray t) shadow object leaf (pieces_in built).pieces
by_pieces built ray shadow t object leaf =
    let s : Surfaces = surfaces_in built in
    by_leaves s.leaves s.objects ray shadow t (object - length s.objects) leaf (slice_get s.objects object) ∙ built.split (leaf_on s.leaves ray t) shadow object leaf

module _ (built : Built) (ray : Ray) (after : ℕ) (shadow : Bool) (b : Search) (done : IsDone (pieces_in built) ray after shadow b) where
  same_ray : b.path.ray ≡ ray
  same_ray = done.further.ray ∙ done.begun.ray

  same_shadow : b.shadow ≡ shadow
  same_shadow = done.further.shadow ∙ done.begun.shadow

  -- what is struck of a piece counts for nothing below the end
  asked_piece : (t leaf k : ℕ) (x : Piece) → slice_get (pieces_in built).pieces k ≡ Some x → b.from ≤ t → t < b.path.end → strikes_of (leaf_on (pieces_in built).leaves ray t) shadow x leaf ≡ true → IsBeaten b.best t x.object leaf
  asked_piece t leaf k x at low lt h =
      let R : Ray → Type 0 = λ r. is_piece_struck (pieces_in built) r shadow t k leaf ≡ true in
      let S : Bool → Type 0 = λ d. is_piece_struck (pieces_in built) b.path.ray d t k leaf ≡ true in
      let O : Option Piece → Type 0 = λ o. piece_struck (leaf_on (pieces_in built).leaves ray t) shadow leaf o ≡ true in
      let W : Option Piece → Type 0 = λ o. IsBeaten b.best t (owner_of o) leaf in
      subst W at (done.asked k (slice_get_within (pieces_in built).pieces k x at) t leaf low lt (subst S (sym same_shadow) (subst R (sym same_ray) (subst O (sym at) h))))

  -- a hit below the end is beaten
  beaten : (t object leaf : ℕ) → IsHit (surfaces_in built) ray after shadow t object leaf → t < b.path.end → IsBeaten b.best t object leaf
  beaten t object leaf h lt =
      let f = leaf_on (pieces_in built).leaves ray t in
      let within : t < done.start.path.end = (done.begun.reach t).1 h.place in
      let low : done.start.from ≤ t = done.begun.from.all t h.near h.behind (omega (arith, done.start.path.near)) in
      let m = found_in (strikes_for f shadow object leaf) (pieces_in built).pieces (sym (by_pieces built ray shadow t object leaf) ∙ h.struck) in
      let q = and_parts (eqb object m.1.object) (strikes_of f shadow m.1 leaf) m.3 in
      let P : ℕ → Type 0 = λ o. IsBeaten b.best t o leaf in
      subst P (sym (eqb-true object m.1.object q.0)) (asked_piece t leaf m.0 m.1 m.2 (omega (arith, done.further.from)) lt q.1)

  pub all_none : b.best ≡ None → (t object leaf : ℕ) → ¬ IsHit (surfaces_in built) ray after shadow t object leaf
  all_none e t object leaf h =
      let within : t < done.start.path.end = (done.begun.reach t).1 h.place in
      let same = (done.further.none e).1 in
      let P : Option Found → Type 0 = λ o. IsBeaten o t object leaf in
      subst P e (beaten t object leaf h (omega arith))

  strike : (best : Found) → b.best ≡ Some best → IsStrike (pieces_in built) done.start best
  strike best e = ⊎_elim (λ k. absurd (none-some best (sym done.begun.best ∙ k))) (λ k. k) (done.further.found best e)

  ends : (best : Found) → b.best ≡ Some best → b.path.end ≡ best.strike.t + 1
  ends best e = let P : Option Found → Type 0 = λ o. IfSome o (λ found. b.path.end ≡ found.strike.t + 1) in subst P e b.ends

  hits : (best : Found) → b.best ≡ Some best → IsHit (surfaces_in built) ray after shadow best.strike.t best.object best.strike.leaf
  hits best e =
      let k = strike best e in
      let P : Ray → Type 0 = λ r. any_strikes (leaf_on (pieces_in built).leaves r best.strike.t) shadow best.object best.strike.leaf (pieces_in built).pieces ≡ true in
      let Q : Bool → Type 0 = λ d. any_strikes (leaf_on (pieces_in built).leaves done.start.path.ray best.strike.t) d best.object best.strike.leaf (pieces_in built).pieces ≡ true in record {
        origin = (done.begun.reach 0).0 (omega (arith, k.high));
        place = (done.begun.reach best.strike.t).0 k.high;
        near = omega (arith, done.begun.from.near, k.low);
        behind = done.begun.from.behind best.strike.t k.low (omega (arith, k.high, done.start.path.near));
        struck = by_pieces built ray shadow best.strike.t best.object best.strike.leaf ∙ subst P done.begun.ray (subst Q done.begun.shadow k.struck);
      }

  -- on the search's own ray
  pub struck_best : (best : Found) → b.best ≡ Some best → is_struck (surfaces_in built) b.path.ray shadow best.strike.t best.object best.strike.leaf ≡ true
  struck_best best e =
      let P : Ray → Type 0 = λ r. is_struck (surfaces_in built) r shadow best.strike.t best.object best.strike.leaf ≡ true in subst P (sym same_ray) (hits best e).struck

  first : (best : Found) → b.best ≡ Some best → (t object leaf : ℕ) → IsHit (surfaces_in built) ray after shadow t object leaf → t < best.strike.t + 1 → IsBeaten (Some best) t object leaf
  first best e t object leaf h lt = let P : Option Found → Type 0 = λ o. IsBeaten o t object leaf in subst P e (beaten t object leaf h (omega (arith, ends best e)))

  nearest : (best : Found) → b.best ≡ Some best → (t object leaf : ℕ) → IsHit (surfaces_in built) ray after shadow t object leaf → best.strike.t ≤ t
  nearest best e t object leaf h = ⊎_elim
      (λ lt. omega (arith, (first best e t object leaf h lt).0))
      (λ ge. omega arith)
      (cases_lt t (best.strike.t + 1))

  pub all_nearest : (best : Found) (hit : Hit) → b.best ≡ Some best → hit.t ≡ best.strike.t → hit.object ≡ best.object → hit.leaf ≡ best.strike.leaf
      → Some hit.face ≡ face_at (surfaces_in built) b.path.ray best.strike.t best.strike.leaf → hit.entering ≡ enters_at (surfaces_in built) b.path.ray best.strike.t best.strike.leaf → IsNearest (surfaces_in built) ray after shadow hit
  all_nearest best hit e t object leaf face entering =
      let s : Surfaces = surfaces_in built in
      let R : Ray → Type 0 = λ r. Some hit.face ≡ face_at s r best.strike.t best.strike.leaf in
      let A : ℕ → Type 0 = λ u. Some hit.face ≡ face_at s ray u best.strike.leaf in
      let B : ℕ → Type 0 = λ l. Some hit.face ≡ face_at s ray hit.t l in
      let T : Ray → Type 0 = λ r. hit.entering ≡ enters_at s r best.strike.t best.strike.leaf in
      let C : ℕ → Type 0 = λ u. hit.entering ≡ enters_at s ray u best.strike.leaf in
      let D : ℕ → Type 0 = λ l. hit.entering ≡ enters_at s ray hit.t l in
      let X : ℕ → Type 0 = λ u. IsHit s ray after shadow u best.object best.strike.leaf in
      let Y : ℕ → Type 0 = λ o. IsHit s ray after shadow hit.t o best.strike.leaf in
      let Z : ℕ → Type 0 = λ l. IsHit s ray after shadow hit.t hit.object l in record {
        found = subst Z (sym leaf) (subst Y (sym object) (subst X (sym t) (hits best e)));
        nearest = λ u o l k. let m = nearest best e u o l k in omega arith;
        first = λ o l k. (let F : ℕ → Type 0 = λ u. IsHit s ray after shadow u o l in let m = first best e best.strike.t o l (subst F t k) (omega arith) in omega (arith, m.1));
        first_leaf = λ l k. (let F : ℕ → Type 0 = λ u. IsHit s ray after shadow u hit.object l in let m = first best e best.strike.t hit.object l (subst F t k) (omega arith) in
            let n = m.2 object in omega arith);
        face = subst B (sym leaf) (subst A (sym t) (subst R same_ray face));
        entering = subst D (sym leaf) (subst C (sym t) (subst T same_ray entering));
      }
