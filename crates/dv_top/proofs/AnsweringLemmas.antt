-- What the parts of an answer give together.
use Rattle.std.proofs.Common.{◌≡◌, ℕ, ◌+◌, ◌<◌, ◌≤◌, List, length, take, Option, Some, None, Result, Ok, Err, arith, ap, sym, refl, ◌∙◌}
use Rattle.std.proofs.lemmas.List.{take_all, length-take}
use Rattle.dv_defs.specs.declared.run.Entry.{Entry}
use Rattle.dv_console.specs.declared.command.Cmd.{Cmd}
use Rattle.dv_io.specs.Io.{TookPart, after_write}
use Rattle.dv_top.specs.Answering.{HasTaken, IsPartlyPrinted, IsPrinted, IsReadOf}
use Rattle.dv_top.specs.Said.{IsSaid, text_limit}

-- ---- texts

whole_by : (n limit : ℕ) (bytes text : List ℕ) → n ≡ limit + 1 → text ≡ take n bytes → length text ≤ limit → (text ≡ bytes) × (length bytes ≤ limit)
whole_by n limit bytes text more is few =
    let size = ap (λ t. length t) is in
    let short : length bytes ≤ limit = omega (arith, size, length-take n bytes) in
    (is ∙ take_all n bytes (omega arith), short)

pub past_by : (n limit : ℕ) (bytes text : List ℕ) → text ≡ take n bytes → limit < length text → limit < length bytes
past_by n limit bytes text is many = omega (arith, ap (λ t. length t) is, length-take n bytes)

pub read_whole : (bytes text : List ℕ) → IsReadOf bytes text → length text ≤ text_limit → (text ≡ bytes) × (length bytes ≤ text_limit)
read_whole bytes text is few = whole_by (text_limit + 1) text_limit bytes text refl is few

pub read_past : (bytes text : List ℕ) → IsReadOf bytes text → text_limit < length text → text_limit < length bytes
read_past bytes text is many = past_by (text_limit + 1) text_limit bytes text is many

-- a text that isn't too large is what is read of it
itself_by : (n limit : ℕ) (text : List ℕ) → n ≡ limit + 1 → length text ≤ limit → text ≡ take n text
itself_by n limit text more few = sym (take_all n text (omega arith))

pub read_of_itself : (text : List ℕ) → length text ≤ text_limit → IsReadOf text text
read_of_itself text few = itself_by (text_limit + 1) text_limit text refl few

-- a text that was read isn't too large, and what is found of it is found of the bytes
pub found_in : {A : Type 0} (f : List ℕ → A) (bytes text : List ℕ) (x : A) → IsReadOf bytes text → length text ≤ text_limit → f text ≡ x → (length bytes ≤ text_limit) × (f bytes ≡ x)
found_in f bytes text x is few gives =
    let whole = read_whole bytes text is few in
    (whole.1, ap f (sym whole.0) ∙ gives)

-- ---- results

pub none_or_some : {A : Type 0} (o : Option A) (x : A) → o ≡ None → o ≡ Some x → ⊥
none_or_some o x none some = cc

pub same_some : {A : Type 0} (o : Option A) (x y : A) → o ≡ Some x → o ≡ Some y → x ≡ y
same_some o x y e h = cc

pub same_ok : {A B : Type 0} (r : Result A B) (x y : A) → r ≡ Ok x → r ≡ Ok y → x ≡ y
same_ok r x y e h = cc

pub same_err : {A B : Type 0} (r : Result A B) (x y : B) → r ≡ Err x → r ≡ Err y → x ≡ y
same_err r x y e h = cc

pub ok_or_err : {A B : Type 0} (r : Result A B) (x : A) (y : B) → r ≡ Ok x → r ≡ Err y → ⊥
ok_or_err r x y e h = cc

pub large_or_small : (n : ℕ) → text_limit < n → n ≤ text_limit → ⊥
large_or_small n many few = absurd (omega arith)

-- ---- what the sink took

pub printed : (asked : Option Cmd) (bytes : List ℕ) (log : List Entry) (status : ℕ) (text : List ℕ) (before after : Option (List ℕ)) → IsSaid asked bytes log status text → after ≡ after_write text before → IsPrinted asked bytes log status before after
printed asked bytes log status text before after said took = record { text = text; said = said; took = took }

pub partly_printed : (asked : Option Cmd) (bytes : List ℕ) (log : List Entry) (status : ℕ) (text : List ℕ) (before after : Option (List ℕ)) → IsSaid asked bytes log status text → TookPart before after text → IsPartlyPrinted asked bytes log before after
partly_printed asked bytes log status text before after said (n, took) = record { status = status; text = text; said = said; count = n; took = took }

pub part_taken : (before after : Option (List ℕ)) (text : List ℕ) → TookPart before after text → HasTaken before after
part_taken before after text (n, took) = (take n text, took)
