-- Pieces that are read one after another.
use Rattle.std.proofs.Common.{◌≡◌, ℕ, ◌+◌, ◌≤◌, List, [], ◌++◌, length, take, drop, refl, ap, sym, ◌∙◌, arith, Option, Some, None, IfSome, length-append, length-drop, subst}
use Rattle.std.proofs.Math.Seq.{take-add}
use Rattle.std.proofs.lemmas.List.{drop-drop, drop_all, take_all, length-take-le}
use Rattle.dv_io.specs.Io.{after_taking, Copies}
use Rattle.dv_top.specs.Pieces.{ReadSoFar}
use Rattle.dv_top.specs.Said.{text_limit}

pub read_none : (old : Option (List ℕ)) → ReadSoFar old old []
read_none None = record { left = refl; front = tt }
read_none (Some bytes) = record { left = refl; front = (refl, omega arith) }

-- what one more read of n bytes makes, where the source tells its bytes
read_more_told : (bytes : List ℕ) (text piece : List ℕ) (n : ℕ) → text ≡ take (length text) bytes → length text ≤ length bytes → length piece ≡ n → n ≤ length (drop (length text) bytes) → piece ≡ take n (drop (length text) bytes) → (drop n (drop (length text) bytes) ≡ drop (length (text ++ piece)) bytes) × (text ++ piece ≡ take (length (text ++ piece)) bytes) × (length (text ++ piece) ≤ length bytes)
read_more_told bytes text piece n front within size fits copied =
    let long : length (text ++ piece) ≡ length text + n = omega (arith, length-append text piece) in (
      drop-drop n (length text) bytes ∙ ap (λ k. drop k bytes) (sym long),
      (let both : text ++ piece ≡ take (length text) bytes ++ take n (drop (length text) bytes) = cc in both ∙ sym (take-add (length text) n bytes) ∙ ap (λ k. take k bytes) (sym long)),
      omega (arith, length-drop (length text) bytes),
    )

pub read_more : (old mid new : Option (List ℕ)) (text room : List ℕ) (n : ℕ) → ReadSoFar old mid text → n ≤ length room → new ≡ after_taking n mid → Copies n mid room → ReadSoFar old new (text ++ take n room)
read_more None mid new text room n so fits after copied = record { left = after ∙ ap (after_taking n) so.left; front = tt }
read_more (Some bytes) mid new text room n so fits after copied =
    let told : Copies n (Some (drop (length text) bytes)) room = subst (λ (m : Option (List ℕ)). Copies n m room) so.left copied in
    let more = read_more_told bytes text (take n room) n so.front.0 so.front.1 (length-take-le n room fits) told.0 told.1 in
    record { left = after ∙ ap (after_taking n) so.left ∙ ap Some more.0; front = (more.1, more.2) }

-- at the end of the source all was read
pub read_all_at_end : (old now : Option (List ℕ)) (text : List ℕ) → ReadSoFar old now text → length text ≤ text_limit → IfSome now (λ bytes. bytes ≡ []) → (bytes : List ℕ) → old ≡ Some bytes → text ≡ take (text_limit + 1) bytes
read_all_at_end None now text so within end bytes is = cc
read_all_at_end (Some all) now text so within end bytes is =
    let none : drop (length text) all ≡ [] = subst (λ (m : Option (List ℕ)). IfSome m (λ rest. rest ≡ [])) so.left end in
    let size : length all ≤ length text = omega (arith, length-drop (length text) all, ap length none) in
    let whole : text ≡ all = so.front.0 ∙ take_all (length text) all size in
    let one : all ≡ bytes = cc in
    whole ∙ sym (take_all (text_limit + 1) all (omega arith)) ∙ ap (take (text_limit + 1)) one

-- at one byte past the limit, the front was read
pub read_all_past : (old now : Option (List ℕ)) (text : List ℕ) → ReadSoFar old now text → length text ≡ text_limit + 1 → (bytes : List ℕ) → old ≡ Some bytes → text ≡ take (text_limit + 1) bytes
read_all_past None now text so past bytes is = cc
read_all_past (Some all) now text so past bytes is =
    let one : all ≡ bytes = cc in
    so.front.0 ∙ ap (λ k. take k all) past ∙ ap (take (text_limit + 1)) one

-- at the end of the source nothing is left, whatever the limit
pub left_at_end : (limit : ℕ) (old mid now : Option (List ℕ)) (text : List ℕ) → ReadSoFar old mid text → length text ≤ limit → now ≡ after_taking 0 mid → IfSome mid (λ bytes. bytes ≡ []) → now ≡ after_taking limit old
left_at_end limit None mid now text so within after end = after ∙ ap (after_taking 0) so.left
left_at_end limit (Some all) mid now text so within after end =
    let none : drop (length text) all ≡ [] = subst (λ (m : Option (List ℕ)). IfSome m (λ rest. rest ≡ [])) so.left end in
    let size : length all ≤ limit = omega (arith, length-drop (length text) all, ap length none) in
    after ∙ (ap (after_taking 0) so.left ∙ ap Some (none ∙ sym (drop_all limit all size)))

-- at the limit so much was taken
pub left_past : (limit : ℕ) (old now : Option (List ℕ)) (text : List ℕ) → ReadSoFar old now text → length text ≡ limit → now ≡ after_taking limit old
left_past limit old now text so past = so.left ∙ ap (λ k. after_taking k old) past
