-- Words by their numbers.
use Rattle.std.proofs.Common.{ℕ, ◌≡◌, ◌+◌, refl, sym, ap, ◌∙◌, List, [], ◌∷◌, ◌++◌, map, not, Bool, true, false, Some, None, cond, ◌||◌, if◌then◌else◌}
use Rattle.std.specs.Str.{bytes_eq}
use Rattle.std.specs.List.{list_any, position_or_len, position}
use Rattle.text_structure.specs.Marks.{number_in, with_word}

pub mapped_len : {V : Type 0} (f : V → List ℕ) (word : List ℕ) (ks : List V) → position_or_len (λ k. bytes_eq word (f k)) ks ≡ number_in (map f ks) word
mapped_len f word [] = refl
mapped_len f word (k ∷ ks) = ap (λ n. cond (not (bytes_eq word (f k))) (1 + n) 0) (mapped_len f word ks)

pub mapped_any : {V : Type 0} (f : V → List ℕ) (word : List ℕ) (ks : List V) → list_any (λ k. bytes_eq word (f k)) ks ≡ list_any (bytes_eq word) (map f ks)
mapped_any f word [] = refl
mapped_any f word (k ∷ ks) = ap (λ b. bytes_eq word (f k) || b) (mapped_any f word ks)

placed : (b : Bool) (n i : ℕ) → cond b (Some n) None ≡ Some i → n ≡ i
placed true n i is = cc is
placed false n i is = absurd (cc is)

pub found_number : {V : Type 0} (f : V → List ℕ) (word : List ℕ) (ks : List V) (i : ℕ) → position (λ k. bytes_eq word (f k)) ks ≡ Some i → i ≡ number_in (map f ks) word
found_number f word ks i is = sym (placed _ _ i is) ∙ mapped_len f word ks

kept : (b : Bool) (words new : List (List ℕ)) → b ≡ true → (if b then words else new) ≡ words
kept true words new is = refl
kept false words new is = absurd (cc is)

pub found_words : {V : Type 0} (f : V → List ℕ) (word : List ℕ) (ks : List V) → list_any (λ k. bytes_eq word (f k)) ks ≡ true → with_word (map f ks) word ≡ map f ks
found_words f word ks is = kept _ (map f ks) _ (sym (mapped_any f word ks) ∙ is)

pub pushed : {V : Type 0} (f : V → List ℕ) (k : V) (ks : List V) → map f (ks ++ k ∷ []) ≡ map f ks ++ f k ∷ []
pushed f k [] = refl
pushed f k (j ∷ ks) = ap (λ rest. f j ∷ rest) (pushed f k ks)

added_by : {V : Type 0} (f : V → List ℕ) (k : V) (ks : List V) (b : Bool) → map f (if b then ks else ks ++ k ∷ []) ≡ (if b then map f ks else map f ks ++ f k ∷ [])
added_by f k ks true = refl
added_by f k ks false = pushed f k ks

pub added_words : {V : Type 0} (f : V → List ℕ) (word : List ℕ) (k : V) (ks : List V) → f k ≡ word → map f (if list_any (λ j. bytes_eq (f k) (f j)) ks then ks else ks ++ k ∷ []) ≡ with_word (map f ks) word
added_words f word k ks is = added_by f k ks _ ∙ ap (λ b. if b then map f ks else map f ks ++ f k ∷ []) (mapped_any f (f k) ks) ∙ ap (with_word (map f ks)) is
