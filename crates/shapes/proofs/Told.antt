-- The faces of solids as tests, and as facts that rows of numbers are narrowed by.
use lib.Dec.{leb}
use lib.Signed.{le_z}
use Rattle.std.proofs.Common.{ℕ, ℤ, pos, ◌<◌, ◌≤◌, ◌^◌, ◌+ℤ◌, ◌-ℤ◌, ◌≤ℤ◌, ◌≡◌, ◌↔◌, ◌⊎◌, ◌∙◌, inl, inr, ⊎_elim, refl, sym, arith, unsigned_abs, Bool, true, false, ◌&&◌, ◌||◌, nat_le, nat_lt, int_le, [], ◌∷◌, ◌++◌}
use Rattle.std.proofs.lemmas.Int.{ints}
use Rattle.std.proofs.lemmas.Bool.Decides.{nat_tests}
use Rattle.fix_math.specs.declared.fix.V3.{V3}
use Rattle.shapes.proofs.Bent.{le_true, true_le}
use Rattle.shapes.specs.Faces.{in_ball, in_pipe, in_taper, is_near, ends, all_hold}
use Rattle.shapes.specs.Lines.{IsWithin, IsInStretches, is_in_span, is_in_stretches}
use Rattle.shapes.specs.Spheres.{square, offset_from}
use Rattle.shapes.specs.declared.parts.Stretches.{Stretches}
use Rattle.shapes.specs.declared.span.Span.{Span}

pub same_test : (a b : Bool) → (a ≡ true → b ≡ true) → (b ≡ true → a ≡ true) → a ≡ b
same_test true b f g = sym (f refl)
same_test false true f g = g refl
same_test false false f g = refl

and_split : (a b : Bool) → (a && b) ≡ true → (a ≡ true) × (b ≡ true)
and_split true b h = (refl, h)
and_split false b h = absurd (cc)

and_join : (a b : Bool) → a ≡ true → b ≡ true → (a && b) ≡ true
and_join true b h k = k
and_join false b h k = absurd (cc)

or_split : (a b : Bool) → (a || b) ≡ true → (a ≡ true) ⊎ (b ≡ true)
or_split true b h = inl refl
or_split false b h = inr h

or_left : (a b : Bool) → a ≡ true → (a || b) ≡ true
or_left true b h = refl
or_left false b h = absurd (cc)

or_right : (a b : Bool) → b ≡ true → (a || b) ≡ true
or_right true b h = refl
or_right false b h = h

pub le_test : (a b : ℕ) → (nat_le a b ≡ true) ↔ (a ≤ b)
le_test a b = (λ h. grind (arith, nat_tests), λ h. grind (arith, nat_tests))

pub lt_test : (a b : ℕ) → (nat_lt a b ≡ true) ↔ (a < b)
lt_test a b = (λ h. grind (arith, nat_tests), λ h. grind (arith, nat_tests))

pub span_test : (s : Span) (t : ℕ) → (is_in_span s t ≡ true) ↔ IsWithin s t
span_test s t = (
  λ h. let k = and_split (nat_le s.from t) (nat_lt t s.end) h in record { low = (le_test s.from t).0 k.0; high = (lt_test t s.end).0 k.1 },
  λ w. and_join (nat_le s.from t) (nat_lt t s.end) ((le_test s.from t).1 w.low) ((lt_test t s.end).1 w.high),
)

pub stretches_test : (s : Stretches) (t : ℕ) → (is_in_stretches s t ≡ true) ↔ IsInStretches s t
stretches_test s t = (
  λ h. ⊎_elim (λ k. inl ((span_test s.one t).0 k)) (λ k. inr ((span_test s.two t).0 k)) (or_split (is_in_span s.one t) (is_in_span s.two t) h),
  λ w. ⊎_elim (λ k. or_left (is_in_span s.one t) (is_in_span s.two t) ((span_test s.one t).1 k)) (λ k. or_right (is_in_span s.one t) (is_in_span s.two t) ((span_test s.two t).1 k)) w,
)

pub and_test : (a b : Bool) (p q : Type 0) → (a ≡ true) ↔ p → (b ≡ true) ↔ q → ((a && b) ≡ true) ↔ (p × q)
and_test a b p q f g = (
  λ h. let k = and_split a b h in (f.0 k.0, g.0 k.1),
  λ h. and_join a b (f.1 h.0) (g.1 h.1),
)

pub int_test : (a b : ℤ) → (int_le a b ≡ true) ↔ (a ≤ℤ b)
int_test a b = (λ h. true_le a b h, λ h. le_true a b h)

pub end_test : (b : Bool) (p : Type 0) → (b ≡ true) ↔ p → ((b && true) ≡ true) ↔ p
end_test b p f = (λ h. f.0 (and_split b true h).0, λ h. and_join b true (f.1 h) refl)

-- numbers of a path by a chain of facts
pub told : (s : Stretches) (t end : ℕ) (faces : Bool) (p : Type 0) → (faces ≡ true) ↔ p → IsInStretches s t ↔ ((t < end) × p) → is_in_stretches s t ≡ (nat_lt t end && faces)
told s t end faces p f g =
    let k = and_test (nat_lt t end) faces (t < end) p (lt_test t end) f in
    let m = stretches_test s t in
    same_test _ _ (λ h. k.1 (g.0 (m.0 h))) (λ h. m.1 (g.1 (k.0 h)))

-- ---- each face as a fact

abbrev pub Near : ℤ → ℤ → Type 0
Near most z = unsigned_abs z ≤ unsigned_abs most

near_test : (most z : ℤ) → (is_near most z ≡ true) ↔ Near most z
near_test most z = le_test (unsigned_abs z) (unsigned_abs most)

abbrev pub InPipe : ℤ → ℤ → ℤ → Type 0
InPipe r x y = Near r x × (Near r y × ((square x +ℤ square y) ≤ℤ square r))

pub pipe_test : (r : ℤ) (l : V3) → (in_pipe r l ≡ true) ↔ InPipe r l.x l.y
pipe_test r l = and_test _ _ _ _ (near_test r l.x) (and_test _ _ _ _ (near_test r l.y) (int_test (square l.x +ℤ square l.y) (square r)))

abbrev pub InBall : ℤ → ℤ → ℤ → ℤ → Type 0
InBall r x y z = Near r x × (Near r y × (Near r z × ((square x +ℤ square y +ℤ square z) ≤ℤ square r)))

pub ball_test : (r : ℤ) (l : V3) → (in_ball r l ≡ true) ↔ InBall r l.x l.y l.z
ball_test r l = and_test _ _ _ _ (near_test r l.x) (and_test _ _ _ _ (near_test r l.y) (and_test _ _ _ _ (near_test r l.z) (int_test (square l.x +ℤ square l.y +ℤ square l.z) (square r))))

abbrev pub InTaper : ℤ → ℤ → ℤ → ℤ → Type 0
InTaper widest r x y = Near widest x × (Near widest y × ((pos 0 ≤ℤ r) × ((r ≤ℤ pos (2 ^ 62)) × ((square x +ℤ square y) ≤ℤ square r))))

pub taper_test : (widest r : ℤ) (l : V3) → (in_taper widest r l ≡ true) ↔ InTaper widest r l.x l.y
taper_test widest r l =
    and_test _ _ _ _ (near_test widest l.x) (and_test _ _ _ _ (near_test widest l.y)
    (and_test _ _ _ _ (int_test (pos 0) r) (and_test _ _ _ _ (int_test r (pos (2 ^ 62))) (int_test (square l.x +ℤ square l.y) (square r)))))

abbrev pub Between : ℤ → ℤ → Type 0
Between length z = (pos 0 ≤ℤ z) × (z ≤ℤ length)

pub ends_test : (length z : ℤ) → (all_hold (ends length z) ≡ true) ↔ Between length z
ends_test length z = and_test _ _ _ _ (int_test (pos 0) z) (end_test _ _ (int_test z length))

-- ---- chains of narrowed spans

abbrev pub Whole : ℕ → ℕ → Type 0
Whole end t = IsWithin (record { from = 0; end = end }) t

below : (end t : ℕ) → Whole end t → t < end
below end t w = w.high

whole : (end t : ℕ) → t < end → Whole end t
whole end t lt = record { low = omega arith; high = lt }

under_zero : (a b : ℤ) → (a -ℤ b) ≤ℤ pos 0 → a ≤ℤ b
under_zero a b h = omega (arith, ints)

at_zero : (a b : ℤ) → a ≤ℤ b → (a -ℤ b) ≤ℤ pos 0
at_zero a b h = omega (arith, ints)

pub cuboid_told : (s : Stretches) (t end : ℕ) (a b c x y z : ℤ) (l : V3) (ax ay az : Type 0) → x ≡ l.x → y ≡ l.y → z ≡ l.z
    → ax ↔ (Whole end t × (pos 0 ≤ℤ x) × (x ≤ℤ a)) → ay ↔ (ax × (pos 0 ≤ℤ y) × (y ≤ℤ b)) → az ↔ (ay × (pos 0 ≤ℤ z) × (z ≤ℤ c))
    → IsInStretches s t ↔ az
    → is_in_stretches s t ≡ (nat_lt t end && all_hold (ends a l.x ++ (ends b l.y ++ ends c l.z)))
cuboid_told s t end a b c x y z l ax ay az ex ey ez f g k m =
    told s t end _ ((pos 0 ≤ℤ l.x) × ((l.x ≤ℤ a) × ((pos 0 ≤ℤ l.y) × ((l.y ≤ℤ b) × Between c l.z))))
    (and_test _ _ _ _ (int_test (pos 0) l.x) (and_test _ _ _ _ (int_test l.x a) (and_test _ _ _ _ (int_test (pos 0) l.y) (and_test _ _ _ _ (int_test l.y b) (ends_test c l.z)))))
    (rw (← ex, ← ey, ← ez) (
      λ w. let p = k.0 (m.0 w) in let q = g.0 p.0 in let r = f.0 q.0 in
          (below end t r.0, (r.1, (r.2, (q.1, (q.2, (p.1, p.2)))))),
      λ w. let p = w.1 in m.1 (k.1 (g.1 (f.1 (whole end t w.0, p.0, p.1.0), p.1.1.0, p.1.1.1.0), p.1.1.1.1.0, p.1.1.1.1.1)),
    ))

pub half_space_told : (s : Stretches) (t end : ℕ) (limit v w u : ℤ) (a : Type 0) → v ≡ w -ℤ limit → w ≡ u
    → a ↔ (Whole end t × (v ≤ℤ pos 0)) → IsInStretches s t ↔ a
    → is_in_stretches s t ≡ (nat_lt t end && all_hold (int_le u limit ∷ []))
half_space_told s t end limit v w u a e f g h =
    told s t end _ (u ≤ℤ limit) (end_test _ _ (int_test u limit)) (rw (← f) (
      λ i. let k = g.0 (h.0 i) in (below end t k.0, under_zero w limit (rw (← e) k.1)),
      λ i. h.1 (g.1 (whole end t i.0, rw e (at_zero w limit i.1))),
    ))

pub conic_told : (s : Stretches) (t end : ℕ) (v u : ℤ) → v ≡ u → IsInStretches s t ↔ (Whole end t × (v ≤ℤ pos 0))
    → is_in_stretches s t ≡ (nat_lt t end && all_hold (int_le u (pos 0) ∷ []))
conic_told s t end v u e f =
    told s t end _ (u ≤ℤ pos 0) (end_test _ _ (int_test u (pos 0))) (rw (← e) (
      λ i. let k = f.0 i in (below end t k.0, k.1),
      λ i. f.1 (whole end t i.0, i.1),
    ))

-- a shell: what a face leaves of a span
pub pipe_shell : (s : Stretches) (t : ℕ) (r x y : ℤ) (l : V3) (span ax ay : Type 0) → x ≡ l.x → y ≡ l.y
    → ax ↔ (span × Near r x) → ay ↔ (ax × Near r y)
    → IsInStretches s t ↔ (ay × ((square x +ℤ square y -ℤ square r) ≤ℤ pos 0))
    → IsInStretches s t ↔ (span × (in_pipe r l ≡ true))
pipe_shell s t r x y l span ax ay ex ey g k m =
    let q = pipe_test r l in (
      λ w. let a = m.0 w in let b = k.0 a.0 in let d = g.0 b.0 in
          (d.0, q.1 (rw (← ex, ← ey) (d.1, (b.1, under_zero _ _ a.1)))),
      λ w. let p : InPipe r x y = rw (ex, ey) (q.0 w.1) in m.1 (k.1 (g.1 (w.0, p.0), p.1.0), at_zero _ _ p.1.1),
    )

pub ball_shell : (s : Stretches) (t : ℕ) (r x y z : ℤ) (l : V3) (span ax ay az : Type 0) → x ≡ l.x → y ≡ l.y → z ≡ l.z
    → ax ↔ (span × Near r x) → ay ↔ (ax × Near r y) → az ↔ (ay × Near r z)
    → IsInStretches s t ↔ (az × ((square x +ℤ square y +ℤ square z -ℤ square r) ≤ℤ pos 0))
    → IsInStretches s t ↔ (span × (in_ball r l ≡ true))
ball_shell s t r x y z l span ax ay az ex ey ez f g k m =
    let q = ball_test r l in (
      λ w. let a = m.0 w in let b = k.0 a.0 in let d = g.0 b.0 in let e = f.0 d.0 in
          (e.0, q.1 (rw (← ex, ← ey, ← ez) (e.1, (d.1, (b.1, under_zero _ _ a.1))))),
      λ w. let p : InBall r x y z = rw (ex, ey, ez) (q.0 w.1) in m.1 (k.1 (g.1 (f.1 (w.0, p.0), p.1.0), p.1.1.0), at_zero _ _ p.1.1.1),
    )

pub taper_shell : (s : Stretches) (t : ℕ) (widest longest x y r m : ℤ) (l : V3) (span ax ay some : Type 0) → x ≡ l.x → y ≡ l.y → r ≡ m → longest ≡ pos (2 ^ 62)
    → ax ↔ (span × Near widest x) → ay ↔ (ax × Near widest y)
    → some ↔ (ay × (pos 0 ≤ℤ r) × (r ≤ℤ longest))
    → IsInStretches s t ↔ (some × ((square x +ℤ square y -ℤ square r) ≤ℤ pos 0))
    → IsInStretches s t ↔ (span × (in_taper widest m l ≡ true))
taper_shell s t widest longest x y r m l span ax ay some ex ey er el g k n i =
    let q = taper_test widest m l in (
      λ w. let a = i.0 w in let o = n.0 a.0 in let b = k.0 o.0 in let d = g.0 b.0 in
          (d.0, q.1 (rw (← ex, ← ey, ← er) (d.1, (b.1, (o.1, (rw (← el) o.2, under_zero _ _ a.1)))))),
      λ w. let p : InTaper widest r x y = rw (ex, ey, er) (q.0 w.1) in
          i.1 (n.1 (k.1 (g.1 (w.0, p.0), p.1.0), p.1.1.0, rw el p.1.1.1.0), at_zero _ _ p.1.1.1.1),
    )

-- a path in a shell with nothing else, and in one between two ends
pub shell_told : (s : Stretches) (t end : ℕ) (face seen : Bool) → face ≡ seen → IsInStretches s t ↔ (Whole end t × (face ≡ true))
    → is_in_stretches s t ≡ (nat_lt t end && all_hold (seen ∷ []))
shell_told s t end face seen e f =
    told s t end _ (seen ≡ true) (end_test _ _ ((λ h. h), (λ h. h))) (rw (← e) (
      λ i. let k = f.0 i in (below end t k.0, k.1),
      λ i. f.1 (whole end t i.0, i.1),
    ))

pub capped_told : (s : Stretches) (t end : ℕ) (face seen : Bool) (h z l : ℤ) (capped : Type 0) → face ≡ seen → z ≡ l
    → capped ↔ (Whole end t × (pos 0 ≤ℤ z) × (z ≤ℤ h)) → IsInStretches s t ↔ (capped × (face ≡ true))
    → is_in_stretches s t ≡ (nat_lt t end && all_hold (seen ∷ ends h l))
capped_told s t end face seen h z l capped e ez f g =
    told s t end _ ((seen ≡ true) × Between h l) (and_test _ _ _ _ ((λ h. h), (λ h. h)) (ends_test h l)) (rw (← e, ← ez) (
      λ i. let k = g.0 i in let c = f.0 k.0 in (below end t c.0, (k.1, (c.1, c.2))),
      λ i. g.1 (f.1 (whole end t i.0, i.1.1.0, i.1.1.1), i.1.0),
    ))

-- how far a point of the world is from an anchor in it
pub near_anchor : (a p : ℤ) → unsigned_abs a ≤ 2 ^ 28 → unsigned_abs p ≤ 2 ^ 44 → unsigned_abs (offset_from a p) ≤ 2 ^ 45
near_anchor a p h k = omega (arith, ints)

-- the numbers of a path in a solid, from those of its stretches
pub path_numbers : (s : Stretches) (t end : ℕ) (faces : Bool) (a : Type 0) → is_in_stretches s t ≡ (nat_lt t end && faces) → a ↔ IsInStretches s t → a ↔ ((t < end) × (faces ≡ true))
path_numbers s t end faces a e f =
    let k = and_test (nat_lt t end) faces (t < end) (faces ≡ true) (lt_test t end) ((λ h. h), (λ h. h)) in
    let m = stretches_test s t in
    (λ x. k.0 (sym e ∙ m.1 (f.0 x)), λ y. f.1 (m.0 (e ∙ k.1 y)))
