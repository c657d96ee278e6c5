-- Pixels of samples, from a place on and up to a place.
use Rattle.std.proofs.Common.{◌≡◌, ◌+◌, ◌*◌, ◌<◌, ◌≤◌, ℕ, zero, suc, List, [], ◌∷◌, ◌++◌, length, take, drop, get_or, refl, ap, sym, ◌∙◌, arith, rules, append_assoc, length-drop, length-take}
use Rattle.std.proofs.lemmas.List.{drop_more}
use Rattle.std.specs.List.{flat_map}
use Rattle.image_out.specs.Pixels.{Pixel, pixels_of, pixel_at, turned, IsWhole}

-- three more than three times a number
three_more : (n : ℕ) → 3 * suc n ≡ suc (suc (suc (3 * n)))
three_more n = omega arith

-- fewer than three samples are no pixel
pub pixels_short : (s : List ℕ) → length s < 3 → pixels_of s ≡ []
unfolding pixels_of
pixels_short [] h = refl
pixels_short (_ ∷ []) h = refl
pixels_short (_ ∷ _ ∷ []) h = refl
pixels_short (_ ∷ _ ∷ _ ∷ _) h = absurd (omega (arith, h))

-- the pixels behind a place
pub drop_pixels : (n : ℕ) (s : List ℕ) → pixels_of (drop (3 * n) s) ≡ drop n (pixels_of s)
unfolding pixels_of
drop_pixels zero s = refl
drop_pixels (suc n) [] = ap (λ k. pixels_of (drop k [])) (three_more n)
drop_pixels (suc n) (x ∷ []) = ap (λ k. pixels_of (drop k (x ∷ []))) (three_more n)
drop_pixels (suc n) (x ∷ y ∷ []) = ap (λ k. pixels_of (drop k (x ∷ y ∷ []))) (three_more n)
drop_pixels (suc n) (r ∷ g ∷ b ∷ s) =
    ap (λ k. pixels_of (drop k (r ∷ g ∷ b ∷ s))) (three_more n) ∙ drop_pixels n s

-- the pixels before a place
pub take_pixels : (n : ℕ) (s : List ℕ) → pixels_of (take (3 * n) s) ≡ take n (pixels_of s)
unfolding pixels_of
take_pixels zero s = refl
take_pixels (suc n) [] = ap (λ k. pixels_of (take k [])) (three_more n)
take_pixels (suc n) (x ∷ []) = ap (λ k. pixels_of (take k (x ∷ []))) (three_more n)
take_pixels (suc n) (x ∷ y ∷ []) = ap (λ k. pixels_of (take k (x ∷ y ∷ []))) (three_more n)
take_pixels (suc n) (r ∷ g ∷ b ∷ s) =
    ap (λ k. pixels_of (take k (r ∷ g ∷ b ∷ s))) (three_more n) ∙ ap (λ t. record { red = r; green = g; blue = b } ∷ t) (take_pixels n s)

-- the pixel at three samples, and those behind them
pixel_here : (at : ℕ) (s : List ℕ) → at + 3 ≤ length s
    → pixels_of (drop at s) ≡ record { red = get_or s at 0; green = get_or s (at + 1) 0; blue = get_or s (at + 2) 0 } ∷ pixels_of (drop (at + 3) s)
unfolding pixels_of
pixel_here at s h =
    let here : drop at s ≡ get_or s at 0 ∷ drop (at + 1) s = drop_more s at 0 (omega (arith, h)) in
    let next : drop (at + 1) s ≡ get_or s (at + 1) 0 ∷ drop (at + 2) s =
    drop_more s (at + 1) 0 (omega (arith, h)) ∙ ap (λ n. get_or s (at + 1) 0 ∷ drop n s) (omega arith) in
    let last : drop (at + 2) s ≡ get_or s (at + 2) 0 ∷ drop (at + 3) s =
    drop_more s (at + 2) 0 (omega (arith, h)) ∙ ap (λ n. get_or s (at + 2) 0 ∷ drop n s) (omega arith) in
    ap pixels_of (here ∙ ap (λ t. get_or s at 0 ∷ t) (next ∙ ap (λ t. get_or s (at + 1) 0 ∷ t) last))

-- the same by the pixels' places
pub pixel_first : (i : ℕ) (s : List ℕ) → 3 * i + 3 ≤ length s → drop i (pixels_of s) ≡ pixel_at s i ∷ drop (i + 1) (pixels_of s)
pixel_first i s h =
    sym (drop_pixels i s) ∙ pixel_here (3 * i) s h ∙ ap (λ t. pixel_at s i ∷ t) (ap (λ n. pixels_of (drop n s)) (omega arith) ∙ drop_pixels (i + 1) s)

-- three more samples behind those that were turned
pub turned_more : (at : ℕ) (s old a b c d : List ℕ) → at + 3 ≤ length s
    → b ≡ a ++ get_or s (at + 2) 0 ∷ [] → c ≡ b ++ get_or s (at + 1) 0 ∷ [] → d ≡ c ++ get_or s at 0 ∷ []
    → a ++ flat_map turned (pixels_of (drop at s)) ≡ old → d ++ flat_map turned (pixels_of (drop (at + 3) s)) ≡ old
turned_more at s old a b c d h p q r e =
    rw (r, q, p) (let all = pixel_here at s h in rw (sym e) (rw all (search (rules, append_assoc))))

-- a third of the samples
pub length_pixels : (s : List ℕ) → (3 * length (pixels_of s) ≤ length s) × (length s < 3 * length (pixels_of s) + 3)
unfolding pixels_of
length_pixels [] = (omega arith, omega arith)
length_pixels (_ ∷ []) = (omega arith, omega arith)
length_pixels (_ ∷ _ ∷ []) = (omega arith, omega arith)
length_pixels (_ ∷ _ ∷ _ ∷ s) = (omega (arith, (length_pixels s).0), omega (arith, (length_pixels s).1))

-- each pixel has three samples
pub length-turned : (ps : List Pixel) → length (flat_map turned ps) ≡ 3 * length ps
length-turned [] = refl
length-turned (p ∷ ps) = omega (arith, length-turned ps)

pub length-turned-le : (s : List ℕ) → length (flat_map turned (pixels_of s)) ≤ length s
length-turned-le s = omega (arith, length-turned (pixels_of s), (length_pixels s).0)

-- what is left of whole pixels behind some of them
pub whole_drop : (n : ℕ) (s : List ℕ) → IsWhole s → IsWhole (drop (3 * n) s)
whole_drop n s h =
    omega (arith, h, length-drop (3 * n) s, ap length (drop_pixels n s), length-drop n (pixels_of s))

-- so many times three samples are so many pixels
pub whole_of : (n : ℕ) (s : List ℕ) → length s ≡ 3 * n → (length (pixels_of s) ≡ n) × IsWhole s
whole_of n s h =
    let l = length_pixels s in
    (omega (arith, l.0, l.1, h), omega (arith, l.0, l.1, h))

-- some whole pixels of whole pixels
pub whole_take : (n : ℕ) (s : List ℕ) → IsWhole s → n ≤ length (pixels_of s) → IsWhole (take (3 * n) s)
whole_take n s h within =
    omega (arith, h, within, length-take (3 * n) s, ap length (take_pixels n s), length-take n (pixels_of s))

-- the first pixel of a front
pub pixel_front : (s : List ℕ) → 3 ≤ length s → pixel_at (take 3 s) 0 ≡ pixel_at s 0
pixel_front [] h = absurd (omega (arith, h))
pixel_front (_ ∷ []) h = absurd (omega (arith, h))
pixel_front (_ ∷ _ ∷ []) h = absurd (omega (arith, h))
pixel_front (_ ∷ _ ∷ _ ∷ s) h = refl
