-- A seat is parted in two, and two seats become one: the rule stays.
use Rattle.std.proofs.Common.{◌≡◌, ◌≢◌, ◌⊎◌, inl, inr, ⊎_elim, ℕ, ◌+◌, ◌-◌, ◌<◌, ◌≤◌, List, [], ◌∷◌, ◌++◌, length, set, refl, sym, ◌∙◌, arith, subst, Option, Bool, true, false, ◌||◌, if◌then◌else◌}
use mathlib.Core.Option as maybe
use mathlib.Core.Option.{some, none}
use lib.ListN.{get_elem?}
use Rattle.atomic_table.proofs.Lists.{at_set, at_snoc, set_else}
use Rattle.block_pool.specs.Counting.{total}
use Rattle.block_pool.specs.Rule.{IsRuledAt, IsSound, IsPlaced, IsPlaced.home, IsPlaced.out, parts_in, times_drawn, times_marked, over_drawn, over_or_live, turn_in, lifted_in}
use Rattle.block_pool.specs.Views.{list_of, parted, part_of, joined, spent}
use Rattle.block_pool.specs.declared.view.Terms.{Terms}
use Rattle.block_pool.specs.declared.view.View.{View}
use Rattle.block_pool.proofs.Totals.{total_set, total_snoc, times-append, over-append}
use Rattle.block_pool.proofs.Turns.{weight_not}

live_parts : (through : Bool) (parts : ℕ) → 0 < parts → (if through then 0 else (parts - 1)) + (if through then 0 else 1) ≡ (if through then 0 else parts)
live_parts true parts one = refl
live_parts false parts one = omega arith

live_joined : (a b : Bool) (m n : ℕ) → (if a || b then 0 else (m + n)) ≤ (if a then 0 else m) + (if b then 0 else n)
live_joined true b m n = omega arith
live_joined false true m n = omega arith
live_joined false false m n = omega arith

neither_left : (a b : Bool) → (a || b) ≡ false → a ≡ false
neither_left true b e = e
neither_left false b e = refl

neither_right : (a b : Bool) → (a || b) ≡ false → b ≡ false
neither_right true b e = absurd (cc)
neither_right false b e = e

either_one : (a b : Bool) → (a || b) ≡ true → (a ≡ true) ⊎ (b ≡ true)
either_one true b e = inl refl
either_one false b e = inr e

idle_not_lifted : (lifted turn : Bool) → (lifted ≡ true → turn ≡ true) → turn ≡ false → lifted ≡ false
idle_not_lifted true turn h idle = absurd (let e = h refl in cc)
idle_not_lifted false turn h idle = refl

module _ {K P : Type 0} (in_order : P → K → Type 0) (knows : P → ℕ → Type 0) (is_tried : P → ℕ → Type 0) (was_block knew : K → ℕ → Type 0) where
  abbrev At : Terms K → ℕ → ℕ → (ℕ → ℕ) → List (maybe.Option (Option P)) → List (View K) → Type 0
  At = IsRuledAt in_order knows is_tried was_block knew

  abbrev Placed : Terms K → ℕ → (ℕ → ℕ) → List (View K) → List (maybe.Option (Option P)) → Type 0
  Placed = IsPlaced in_order knows is_tried was_block knew

  -- the pen stays where it is while views change, none of which has the turn but where it had
  stays : (terms : Terms K) (next : ℕ) (marks : ℕ → ℕ) (homes : List (maybe.Option (Option P))) (views after : List (View K))
      → total lifted_in after ≡ total lifted_in views
      → ((id : ℕ) (v : View K) → get_elem? after id ≡ some v → v.turn ≡ true → get_elem? views id ≡ some v)
      → Placed terms next marks views homes → Placed terms next marks after homes
  stays terms next marks _ views after same from (home pen none_lifted h) = home pen (same ∙ none_lifted) (record { order = h.order; committed = h.committed; tried = h.tried; kept = λ id u k there turn e x t. h.kept id u k (from id u there turn) turn e x t })
  stays terms next marks _ views after same from (out one) = out (same ∙ one)

  part_sound : (terms : Terms K) (next : ℕ) (marks : ℕ → ℕ) (v : View K) → 0 < v.parts → IsSound terms next marks v → IsSound terms next marks (part_of v)
  part_sound terms next marks v some_part h = record {
    told = λ _. h.told some_part;
    spent = λ e. absurd (omega arith);
    live = λ _. refl;
    ended = h.ended;
    marked = λ x. omega arith;
    lifted = λ e. e;
    known = λ e. absurd (let e' : false ≡ true = e in cc);
    kept = λ e. absurd (let e' : false ≡ true = e in cc);
  }

  left_sound : (terms : Terms K) (next : ℕ) (marks : ℕ → ℕ) (v : View K) → 1 < v.parts → IsSound terms next marks v → IsSound terms next marks (parted v)
  left_sound terms next marks v more h = record {
    told = λ _. h.told (omega arith);
    spent = λ e. absurd (let e' : v.parts - 1 ≡ 0 = e in omega arith);
    live = h.live;
    ended = h.ended;
    marked = h.marked;
    lifted = h.lifted;
    known = h.known;
    kept = h.kept;
  }

  pub parted_at : (terms : Terms K) (next word : ℕ) (marks : ℕ → ℕ) (homes : List (maybe.Option (Option P))) (views : List (View K)) (id : ℕ) (v : View K)
      → get_elem? views id ≡ some v → v.turn ≡ false → 1 < v.parts
      → At terms next word marks homes views → At terms next word marks homes (set views id (parted v) ++ part_of v ∷ [])
  parted_at terms next word marks homes views id v at idle more h =
      let s = h.each id v at in
      let part_one = part_of v in
      record {
        draws = record {
          parts = let e = total_set parts_in views id v (parted v) at in let a = total_snoc parts_in (set views id (parted v)) part_one in let p = h.draws.parts in omega arith;
          once = λ x. let e = total_set (times_drawn x) views id v (parted v) at in let a = total_snoc (times_drawn x) (set views id (parted v)) part_one in let p = h.draws.once x in omega arith;
          bound = let n = length (list_of terms) in let e = total_set (over_or_live n) views id v (parted v) at in let a = total_snoc (over_or_live n) (set views id (parted v)) part_one in
              let p = h.draws.bound in let l = live_parts v.through v.parts (omega arith) in omega arith;
          reach = let n = length (list_of terms) in let e = total_set (over_drawn n) views id v (parted v) at in let a = total_snoc (over_drawn n) (set views id (parted v)) part_one in let p = h.draws.reach in omega arith;
        };
        marks_set = record { set = λ x below. let e = total_set (times_marked x) views id v (parted v) at in let a = total_snoc (times_marked x) (set views id (parted v)) part_one in let p = h.marks_set.set x below in omega arith };
        turns = let e = total_set turn_in views id v (parted v) at in let a = total_snoc turn_in (set views id (parted v)) part_one in let p = h.turns in omega arith;
        one = h.one;
        placed = stays terms next marks homes views (set views id (parted v) ++ part_one ∷ [])
            (let e = total_set lifted_in views id v (parted v) at in let a = total_snoc lifted_in (set views id (parted v)) part_one in omega arith)
            (λ other u there turn. ⊎_elim (λ old. ⊎_elim (λ here. absurd (let t : v.turn ≡ true = subst (λ (u : View K). u.turn ≡ true) (sym here.1) turn in cc)) (λ apart. apart.1) (at_set views id other (parted v) u old))
            (λ new. absurd (let t : false ≡ true = subst (λ (u : View K). u.turn ≡ true) (sym new) turn in cc)) (at_snoc (set views id (parted v)) part_one u other there)) h.placed;
        each = λ other u there. ⊎_elim (λ old. ⊎_elim (λ here. subst (IsSound terms next marks) here.1 (left_sound terms next marks v more s)) (λ apart. h.each other u apart.1) (at_set views id other (parted v) u old))
            (λ new. subst (IsSound terms next marks) new (part_sound terms next marks v (omega arith) s)) (at_snoc (set views id (parted v)) part_one u other there);
      }

  joined_sound : (terms : Terms K) (next : ℕ) (marks : ℕ → ℕ) (v w : View K) → 0 < v.parts → v.turn ≡ false → IsSound terms next marks v → IsSound terms next marks w → IsSound terms next marks (joined v w)
  joined_sound terms next marks v w some_part idle h k = record {
    told = λ _. h.told some_part;
    spent = λ e. absurd (let e' : v.parts + w.parts ≡ 0 = e in omega arith);
    live = λ e. let a = over-append (length (list_of terms)) v.drawn w.drawn in let l = h.live (neither_left v.through w.through e) in let r = k.live (neither_right v.through w.through e) in omega arith;
    ended = λ e. ⊎_elim h.ended k.ended (either_one v.through w.through e);
    marked = λ x. let a = times-append x v.marked w.marked in let b = times-append x v.drawn w.drawn in let l = h.marked x in let r = k.marked x in omega arith;
    lifted = h.lifted;
    known = λ t. absurd (let t' : v.turn ≡ true = t in cc);
    kept = λ t. absurd (let t' : v.turn ≡ true = t in cc);
  }

  spent_sound : (terms : Terms K) (next : ℕ) (marks : ℕ → ℕ) → IsSound terms next marks spent
  spent_sound terms next marks = record {
    told = λ e. absurd (omega arith);
    spent = λ _. (refl, refl, refl);
    live = λ _. refl;
    ended = λ e. absurd (let e' : false ≡ true = e in cc);
    marked = λ x. omega arith;
    lifted = λ e. e;
    known = λ e. absurd (let e' : false ≡ true = e in cc);
    kept = λ e. absurd (let e' : false ≡ true = e in cc);
  }

  pub joined_at : (terms : Terms K) (next word : ℕ) (marks : ℕ → ℕ) (homes : List (maybe.Option (Option P))) (views : List (View K)) (id other : ℕ) (v w : View K)
      → get_elem? views id ≡ some v → other ≢ id → get_elem? (set views id (joined v w)) other ≡ some w → v.turn ≡ false → w.turn ≡ false → 0 < v.parts
      → At terms next word marks homes views → At terms next word marks homes (set (set views id (joined v w)) other spent)
  joined_at terms next word marks homes views id other v w at apart there idle idle' some_part h =
      let s = h.each id v at in
      let k = h.each other w (sym (set_else views id other (joined v w) apart) ∙ there) in
      let both = joined v w in
      let half = set views id both in
      record {
        draws = record {
          parts = let e = total_set parts_in views id v both at in let a = total_set parts_in half other w spent there in let p = h.draws.parts in omega arith;
          once = λ x. let e = total_set (times_drawn x) views id v both at in let a = total_set (times_drawn x) half other w spent there in let t = times-append x v.drawn w.drawn in let p = h.draws.once x in omega arith;
          bound = let n = length (list_of terms) in let e = total_set (over_or_live n) views id v both at in let a = total_set (over_or_live n) half other w spent there in
              let t = over-append n v.drawn w.drawn in let l = live_joined v.through w.through v.parts w.parts in let p = h.draws.bound in omega arith;
          reach = let n = length (list_of terms) in let e = total_set (over_drawn n) views id v both at in let a = total_set (over_drawn n) half other w spent there in let t = over-append n v.drawn w.drawn in let p = h.draws.reach in omega arith;
        };
        marks_set = record { set = λ x below. let e = total_set (times_marked x) views id v both at in let a = total_set (times_marked x) half other w spent there in let t = times-append x v.marked w.marked in let p = h.marks_set.set x below in omega arith };
        turns = let e = total_set turn_in views id v both at in let a = total_set turn_in half other w spent there in let i = weight_not w.turn idle' in let p = h.turns in omega arith;
        one = h.one;
        placed = stays terms next marks homes views (set half other spent)
            (let e = total_set lifted_in views id v both at in let a = total_set lifted_in half other w spent there in let l = weight_not w.lifted (idle_not_lifted w.lifted w.turn k.lifted idle') in omega arith)
            (λ third u place turn. ⊎_elim (λ here. absurd (let t : false ≡ true = subst (λ (u : View K). u.turn ≡ true) (sym here.1) turn in cc))
            (λ old. ⊎_elim (λ here. absurd (let t : v.turn ≡ true = subst (λ (u : View K). u.turn ≡ true) (sym here.1) turn in cc)) (λ far. far.1) (at_set views id third both u old.1)) (at_set half other third spent u place)) h.placed;
        each = λ third u place. ⊎_elim (λ here. subst (IsSound terms next marks) here.1 (spent_sound terms next marks))
            (λ old. ⊎_elim (λ here. subst (IsSound terms next marks) here.1 (joined_sound terms next marks v w some_part idle s k)) (λ far. h.each third u far.1) (at_set views id third both u old.1)) (at_set half other third spent u place);
      }
