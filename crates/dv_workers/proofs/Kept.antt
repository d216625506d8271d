-- What a desk keeps, after an entry more and after bytes that went out.
use Rattle.std.proofs.Common.{◌≡◌, ◌≤◌, ◌+◌, ◌⊎◌, ⊎_elim, inl, inr, ℕ, Bool, true, List, [], ◌∷◌, All, length, sym, subst, ap, ◌∙◌, arith}
use Rattle.std.proofs.lemmas.List.{length_push}
use Rattle.std.proofs.lemmas.List.Elements.{All-append, All-cons, All-nil}
use Rattle.dv_defs.specs.declared.run.Entry.{Entry}
use Rattle.dv_io.specs.Io.{HasRisen}
use Rattle.dv_sound.specs.Runs.{Run}
use Rattle.dv_workers.specs.Desks.{IsDone, IsLonger, IsLongerBy}
use Rattle.dv_workers.specs.Entries.{IsOfWorker}

pub entries_on : (old new : List Entry) → All IsOfWorker old → IsLonger old new → All IsOfWorker new
entries_on old new all l = subst (All IsOfWorker) (sym l.longer) (All-append IsOfWorker old (l.entry ∷ []) all (All-cons IsOfWorker l.entry [] l.of (All-nil IsOfWorker)))

pub length_on : (old new : List Entry) → IsLonger old new → length new ≡ length old + 1
length_on old new l = ap length l.longer ∙ length_push old l.entry

pub entries_by : (n : ℕ) (old new : List Entry) → All IsOfWorker old → IsLongerBy n old new → All IsOfWorker new
entries_by n old new all l = ⊎_elim (λ one. entries_on old new all one.1) (λ none. subst (All IsOfWorker) (sym none.1) all) l

pub length_by : (n : ℕ) (old new : List Entry) → IsLongerBy n old new → length new ≡ length old + n
length_by n old new l = ⊎_elim (λ one. let more = length_on old new one.1 in omega (arith, more, one.0)) (λ none. let same = ap length none.1 in omega (arith, same, none.0)) l

pub risen_on : (began old new : ℕ) (was now : Bool) → began ≤ old → old ≤ new → (was ≡ true → HasRisen began old) → (now ≡ true → (was ≡ true) ⊎ HasRisen old new) → now ≡ true → HasRisen began new
risen_on began old new was now from to before told is =
    ⊎_elim (λ w small. let r = before w (omega arith) in omega (arith, r)) (λ risen small. let r = risen small in omega (arith, r)) (told is)

pub done_alike : (memory fault now_memory now_fault : Bool) (r now : Run) → now_memory ≡ memory → now_fault ≡ fault → now ≡ r → IsDone memory fault r → IsDone now_memory now_fault now
done_alike memory fault now_memory now_fault r now m f same done =
    subst (λ x. IsDone x now_fault now) (sym m) (subst (λ x. IsDone memory x now) (sym f) (subst (λ (x : Run). IsDone memory fault x) (sym same) done))

pub done_on : (memory fault now : Bool) (r : Run) → IsDone memory fault r → (fault ≡ true → now ≡ true) → IsDone memory now r
done_on memory fault now r done to = ⊎_elim (λ m. inl m) (λ d. inr (⊎_elim (λ f. inl (to f)) (λ e. inr e) d.0, d.1)) done
