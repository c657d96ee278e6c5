-- Parts that are appended one after another stand there as one.
use Rattle.std.proofs.Common.{◌≡◌, ℕ, List, ◌++◌, ap, ◌∙◌}
use Rattle.std.proofs.lemmas.List.{append_assoc}

pub glue : (o a b x y : List ℕ) → x ≡ o ++ a → y ≡ x ++ b → y ≡ o ++ (a ++ b)
glue o a b x y e f = f ∙ ap (λ l. l ++ b) e ∙ append_assoc o a b

pub glue3 : (o a b c x y z : List ℕ) → x ≡ o ++ a → y ≡ x ++ b → z ≡ y ++ c → z ≡ o ++ (a ++ (b ++ c))
glue3 o a b c x y z e f g = glue o a (b ++ c) x z e (glue x b c y z f g)

pub glue5 : (o a b c d e v w x y z : List ℕ) → v ≡ o ++ a → w ≡ v ++ b → x ≡ w ++ c → y ≡ x ++ d → z ≡ y ++ e
    → z ≡ o ++ (a ++ (b ++ (c ++ (d ++ e))))
glue5 o a b c d e v w x y z p q r s t = glue3 o a b (c ++ (d ++ e)) v w z p q (glue3 w c d e x y z r s t)

pub glue7 : (o a b c d e f g t u v w x y z : List ℕ) → t ≡ o ++ a → u ≡ t ++ b → v ≡ u ++ c → w ≡ v ++ d → x ≡ w ++ e → y ≡ x ++ f → z ≡ y ++ g
    → z ≡ o ++ (a ++ (b ++ (c ++ (d ++ (e ++ (f ++ g))))))
glue7 o a b c d e f g t u v w x y z p q r s k l m = glue3 o a b (c ++ (d ++ (e ++ (f ++ g)))) t u z p q (glue5 u c d e f g v w x y z r s k l m)
