-- Seven pieces that are appended one after another.
use Rattle.std.proofs.Common.{◌≡◌, ◌++◌, ◌∙◌, ℕ, List, ap, append_assoc}

one_more : (t a b u v : List ℕ) → u ≡ t ++ a → v ≡ u ++ b → v ≡ t ++ (a ++ b)
one_more t a b u v before now = now ∙ (ap (λ x. x ++ b) before ∙ append_assoc t a b)

pub joined : (t a b c d e f g u v w x y z r : List ℕ) → u ≡ t ++ a → v ≡ u ++ b → w ≡ v ++ c → x ≡ w ++ d → y ≡ x ++ e → z ≡ y ++ f → r ≡ z ++ g
    → r ≡ t ++ (a ++ (b ++ (c ++ (d ++ (e ++ (f ++ g))))))
joined t a b c d e f g u v w x y z r is_u is_v is_w is_x is_y is_z is_r =
    one_more t a _ u r is_u (one_more u b _ v r is_v (one_more v c _ w r is_w (one_more w d _ x r is_x (one_more x e _ y r is_y (one_more y f g z r is_z is_r)))))
