-- How a run of calls goes on, moment by moment.
use Rattle.std.proofs.Common.{◌≡◌, ⊎_elim, ℕ, List, inl, inr, arith, subst}
use Rattle.std.proofs.lemmas.Bool.{cases_lt}
use Rattle.shelf.specs.Disk.{Contents, Images}
use Rattle.shelf.specs.Moments.{Passes, Throughout, ByStages}

-- before the first call
pub started : (now : ℕ) (images : Images) (P : Contents) → ((n c : List ℕ) → images now n c → P n c) → Throughout now now images images P
started now images P here = record {
  later = omega arith;
  past = λ m le. inl (λ n c left. left);
  each = λ m n c ge le left. let same : m ≡ now = omega (arith, ge, le) in here n c (subst (λ k. images k n c) same left);
}

-- one call more
pub goes_on : (before mid now : ℕ) (old half new : Images) (P : Contents) → Throughout before mid old half P → Passes mid now half new
    → ((n c : List ℕ) → new now n c → P n c) → Throughout before now old new P
goes_on before mid now old half new P run call here = record {
  later = omega (arith, run.later, call.later);
  past = λ m le. ⊎_elim
      (λ told. ⊎_elim (λ stands. inl (λ n c left. stands n c (told.1 n c left))) (λ has. inr (λ n c left. has n c (told.1 n c left))) (run.past m le))
      (λ is_now. inr (λ n c left. here n c (is_now n c left)))
      (call.each m (omega (arith, le, run.later, call.later)));
  each = λ m n c ge le left. ⊎_elim (λ told. run.each m n c ge told.0 (told.1 n c left)) (λ is_now. here n c (is_now n c left)) (call.each m le);
}

-- another run more, which promises Q
pub then_run : (before mid now : ℕ) (old half new : Images) (P Q : Contents) → Throughout before mid old half P → Throughout mid now half new Q
    → ((n c : List ℕ) → Q n c → P n c) → Throughout before now old new P
then_run before mid now old half new P Q run further implies = record {
  later = omega (arith, run.later, further.later);
  past = λ m le. ⊎_elim
      (λ told. ⊎_elim (λ stands. inl (λ n c left. stands n c (told n c left))) (λ has. inr (λ n c left. has n c (told n c left))) (run.past m le))
      (λ has. inr (λ n c left. implies n c (has n c left)))
      (further.past m (omega (arith, le, run.later)));
  each = λ m n c ge le left. ⊎_elim
      (λ lt. ⊎_elim (λ told. run.each m n c ge (omega (arith, lt)) (told n c left)) (λ has. implies n c (has n c left)) (further.past m (omega (arith, lt))))
      (λ from. implies n c (further.each m n c from le left))
      (cases_lt m mid);
}

-- a run that promises less
pub weaker : (before now : ℕ) (old new : Images) (P Q : Contents) → Throughout before now old new Q → ((n c : List ℕ) → Q n c → P n c) → Throughout before now old new P
weaker before now old new P Q run implies = record {
  later = run.later;
  past = λ m le. ⊎_elim inl (λ has. inr (λ n c left. implies n c (has n c left))) (run.past m le);
  each = λ m n c ge le left. implies n c (run.each m n c ge le left);
}

-- ---- stages

-- a run within one stage
pub one_stage : (before now : ℕ) (old new : Images) (P : ℕ → Contents) (g : ℕ) → Throughout before now old new (P g) → ByStages before now old new P
one_stage before now old new P g run = record {
  later = run.later;
  past = λ m le. ⊎_elim inl (λ has. inr (g, has)) (run.past m le);
  each = λ m ge le. (g, λ n c left. run.each m n c ge le left);
}

-- one call more, at the end of which this is the stage
pub stages_go_on : (before mid now : ℕ) (old half new : Images) (P : ℕ → Contents) (g : ℕ) → ByStages before mid old half P → Passes mid now half new
    → ((n c : List ℕ) → new now n c → P g n c) → ByStages before now old new P
stages_go_on before mid now old half new P g run call here = record {
  later = omega (arith, run.later, call.later);
  past = λ m le. ⊎_elim
      (λ told. ⊎_elim (λ stands. inl (λ n c left. stands n c (told.1 n c left))) (λ has. inr (has.0, λ n c left. has.1 n c (told.1 n c left))) (run.past m le))
      (λ is_now. inr (g, λ n c left. here n c (is_now n c left)))
      (call.each m (omega (arith, le, run.later, call.later)));
  each = λ m ge le. ⊎_elim
      (λ told. let has = run.each m ge told.0 in (has.0, λ n c left. has.1 n c (told.1 n c left)))
      (λ is_now. (g, λ n c left. here n c (is_now n c left)))
      (call.each m le);
}

-- further stages, each of which is one of these
pub stages_then_stages : (before mid now : ℕ) (old half new : Images) (P Q : ℕ → Contents) → ByStages before mid old half P → ByStages mid now half new Q
    → ((h : ℕ) → (g : ℕ) × ((n c : List ℕ) → Q h n c → P g n c)) → ByStages before now old new P
stages_then_stages before mid now old half new P Q run further is_one = record {
  later = omega (arith, run.later, further.later);
  past = λ m le. ⊎_elim
      (λ told. ⊎_elim (λ stands. inl (λ n c left. stands n c (told n c left))) (λ has. inr (has.0, λ n c left. has.1 n c (told n c left))) (run.past m le))
      (λ has. inr ((is_one has.0).0, λ n c left. (is_one has.0).1 n c (has.1 n c left)))
      (further.past m (omega (arith, le, run.later)));
  each = λ m ge le. ⊎_elim
      (λ lt. ⊎_elim
      (λ told. let has = run.each m ge (omega (arith, lt)) in (has.0, λ n c left. has.1 n c (told n c left)))
      (λ has. ((is_one has.0).0, λ n c left. (is_one has.0).1 n c (has.1 n c left)))
      (further.past m (omega (arith, lt))))
      (λ from. let has = further.each m from le in ((is_one has.0).0, λ n c left. (is_one has.0).1 n c (has.1 n c left)))
      (cases_lt m mid);
}

-- a run more, within one stage
pub stages_then_run : (before mid now : ℕ) (old half new : Images) (P : ℕ → Contents) (Q : Contents) (g : ℕ) → ByStages before mid old half P → Throughout mid now half new Q
    → ((n c : List ℕ) → Q n c → P g n c) → ByStages before now old new P
stages_then_run before mid now old half new P Q g run further implies =
    stages_then_stages before mid now old half new P P run
    (one_stage mid now half new P g (weaker mid now half new (P g) Q further implies))
    (λ h. (h, λ n c has. has))
