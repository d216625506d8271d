-- Numbers of names and of classes, one after another.
use Rattle.std.proofs.Common.{◌≡◌, ◌+◌, ◌<◌, ℕ, zero, suc, List, [], ◌∷◌, ◌++◌, length, take, map, Option, Some, None, get_or, refl, sym, ap, ◌∙◌, subst, add-one, arith}
use Rattle.std.specs.Prelude.{filter_map, option_map, All}
use Rattle.std.specs.List.{cons_option}
use Rattle.std.specs.Option.{option_to_list}
use Rattle.std.proofs.lemmas.List.{length-map, map-append, map-id, append-nil}
use Rattle.dv_defs.specs.declared.class.ClassDef.{ClassDef}
use Rattle.dv_defs.specs.declared.image.ClassInfo.{ClassInfo}
use Rattle.law_linking.specs.Stripped.{def_names, AreInRange, IsInRange}

-- what is made of the value that one element gives, where it gives one
one_made : {Y Z : Type 0} (g : Y → Z) (o : Option Y) → map g (cons_option o []) ≡ option_to_list (option_map g o)
one_made g None = refl
one_made g (Some y) = refl

cons_made : {Y Z : Type 0} (g : Y → Z) (o : Option Y) (ys more : List Y) (last : List Z) → map g more ≡ map g ys ++ last → map g (cons_option o more) ≡ map g (cons_option o ys) ++ last
cons_made g None ys more last e = e
cons_made g (Some y) ys more last e = ap (λ (zs : List _). g y ∷ zs) e

made_step : {X Y Z : Type 0} (f : X → Option Y) (g : Y → Z) (xs : List X) (i : ℕ) (x : X) → i < length xs → x ≡ get_or xs i x → map g (filter_map f (take (suc i) xs)) ≡ map g (filter_map f (take i xs)) ++ option_to_list (option_map g (f x))
made_step f g [] i x within is = absurd (omega arith)
made_step f g (y ∷ ys) zero x within is = one_made g (f y) ∙ ap (λ z. option_to_list (option_map g (f z))) (sym is)
made_step f g (y ∷ ys) (suc i) x within is =
    cons_made g (f y) (filter_map f (take i ys)) (filter_map f (take (suc i) ys)) (option_to_list (option_map g (f x))) (made_step f g ys i x (omega arith) is)

-- one turn of a loop that collects what elements give
made_more : {X Y Z : Type 0} (f : X → Option Y) (g : Y → Z) (xs : List X) (i : ℕ) (x : X) → i < length xs → x ≡ get_or xs i x → map g (filter_map f (take (i + 1) xs)) ≡ map g (filter_map f (take i xs)) ++ option_to_list (option_map g (f x))
made_more f g xs i x within is = rw add-one (made_step f g xs i x within is)

-- a turn whose element gives a value
pub given_more : {X Y Z : Type 0} (f : X → Option Y) (g : Y → Z) (xs : List X) (i : ℕ) (x : X) (z : Z) (before after : List Z) → i < length xs → x ≡ get_or xs i x → before ≡ map g (filter_map f (take i xs)) → Some z ≡ option_map g (f x) → after ≡ before ++ z ∷ [] → after ≡ map g (filter_map f (take (i + 1) xs))
given_more f g xs i x z before after within is kept gives added =
    added ∙ (ap (λ zs. zs ++ z ∷ []) kept ∙ (ap (λ o. map g (filter_map f (take i xs)) ++ option_to_list o) gives ∙ sym (made_more f g xs i x within is)))

-- a turn whose element gives none
pub none_more : {X Y Z : Type 0} (f : X → Option Y) (g : Y → Z) (xs : List X) (i : ℕ) (x : X) (before after : List Z) → i < length xs → x ≡ get_or xs i x → before ≡ map g (filter_map f (take i xs)) → None ≡ option_map g (f x) → after ≡ before → after ≡ map g (filter_map f (take (i + 1) xs))
none_more f g xs i x before after within is kept gives same =
    same ∙ (kept ∙ (sym (append-nil (map g (filter_map f (take i xs)))) ∙ (ap (λ o. map g (filter_map f (take i xs)) ++ option_to_list o) gives ∙ sym (made_more f g xs i x within is))))

-- a turn of a loop that makes one of each element
pub each_more : {X Z : Type 0} (g : X → Z) (xs : List X) (x : X) (z : Z) (before after : List Z) → before ≡ map g xs → z ≡ g x → after ≡ before ++ z ∷ [] → after ≡ map g (xs ++ x ∷ [])
each_more g xs x z before after kept made added =
    added ∙ (ap (λ zs. zs ++ z ∷ []) kept ∙ (ap (λ y. map g xs ++ y ∷ []) made ∙ sym (map-append g xs (x ∷ []))))

-- the end of a loop that makes one of each element
pub each_made : {X Z : Type 0} (g : X → Z) (yielded all : List X) (made : List Z) → made ≡ map g yielded → map (λ x. x) yielded ≡ all → made ≡ map g all
each_made g yielded all made kept whole = kept ∙ ap (map g) (sym (map-id yielded) ∙ whole)

-- numbers below the count of names are those of as many classes
pub range_made : (names : List (List ℕ)) (cs : List ClassDef) (g : ClassDef → ClassInfo) (infos : List ClassInfo) → names ≡ def_names cs → infos ≡ map g cs → All (IsInRange (length names)) infos → AreInRange infos
range_made names cs g infos known made within =
    let count : length names ≡ length infos =
    ap length known ∙ (length-map cs (λ (c : ClassDef). c.name) ∙ sym (ap length made ∙ length-map cs g)) in
    subst (λ (n : ℕ). All (IsInRange n) infos) count within
