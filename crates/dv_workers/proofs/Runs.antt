-- What turns and slices leave of a run.
use Rattle.std.proofs.Common.{◌≡◌, ◌≢◌, ◌<◌, ◌≤◌, ◌++◌, ℕ, zero, suc, List, [], refl, sym, ap, ◌∙◌, subst, arith, length, inl, inr}
use Rattle.std.specs.Prelude.{min}
use Rattle.dv_defs.specs.declared.run.Entry.{Entry}
use Rattle.dv_defs.specs.declared.run.Limits.{Limits}
use Rattle.dv_defs.specs.Images.{Image}
use Rattle.dv_defs.specs.Pools.{Method}
use Rattle.dv_local.specs.declared.slice.Slice.{Slice}
use Rattle.dv_machine.specs.Replaying.{Replayed, Stands, NotRunnable, PastEnd, Wrong, replay}
use Rattle.dv_machine.specs.State.{Machine}
use Rattle.dv_sound.specs.Lending.{IsCommitted, IsFitting, logged_some}
use Rattle.dv_sound.specs.Runs.{AtItsState, IsAt, IsAtSome, Run}
use Rattle.dv_sound.specs.Trying.{IsLedBy}
use Rattle.law_output.specs.Laws.{PrintsOn}
use Rattle.law_output.proofs.Steps.{entries_print}
use Rattle.dv_workers.specs.Desks.{IsLonger, IsLongerBy, printed}
use Rattle.dv_workers.proofs.Lent.{without_fewer}

-- a state's output is what was printed
abbrev pub Tells : Run → Type 0
Tells r = AtItsState r (λ main m. printed r ≡ m.shared.output)

-- what a replay leaves printed
abbrev output_of : Replayed → List ℕ
output_of (Stands m) = m.shared.output
output_of (NotRunnable k) = []
output_of (PastEnd k) = []
output_of (Wrong y) = []

nothing : (image : Image) (main : Method) (l : Limits) → output_of (replay image main l []) ≡ []
nothing image main l = refl

-- nothing was printed before anything was logged
pub silent : (r : Run) → IsAtSome r → Tells r → r.log ≡ [] → printed r ≡ []
silent r s tells none =
    tells s.main s.machine s.at ∙ (sym (ap output_of s.at.replayed) ∙ (ap (λ log. output_of (replay r.verified.image s.main r.machine.limits log)) none ∙ nothing r.verified.image s.main r.machine.limits))

prints : (old new : Run) (main : Method) (m n : Machine) → Tells old → Tells new → IsAt old main m → IsAt new main n → PrintsOn m.shared.output n.shared.output → PrintsOn (printed old) (printed new)
prints old new main m n before after here there on =
    (on.0, after main n there ∙ on.1 ∙ ap (λ o. o ++ on.0) (sym (before main m here)))

pub slice_prints : (old new : Run) (worker n : ℕ) (slice : Slice) → IsAtSome old → Tells old → Tells new → IsFitting old slice → ((main : Method) (m : Machine) → IsAt old main m → IsFitting old slice → IsCommitted old new main m worker slice n) → PrintsOn (printed old) (printed new)
slice_prints old new worker n slice s before after fits committed =
    let is = committed s.main s.machine s.at fits in
    prints old new s.main s.machine is.after before after s.at is.at (entries_print old.verified.image s.machine is.after 0 slice.thread n (is.steps 0))

pub logged_one : (old new : List Entry) (worker t n : ℕ) → worker < 8 → n ≤ 256 → n ≢ 0 → new ≡ logged_some old worker t n → IsLonger old new
logged_one old new worker t zero low few some is = absurd (some refl)
logged_one old new worker t (suc n) low few some is = record {
  entry = record { worker = worker; thread = t; steps = suc n };
  of = record { worker = low; some = omega arith; few = few };
  longer = is;
}

-- a slice that comes back
abbrev Comes : Run → Run → ℕ → Slice → ℕ → Type 0
Comes old new worker slice n = (main : Method) (m : Machine) → IsAt old main m → IsFitting old slice → IsCommitted old new main m worker slice n

pub slice_home : (old new : Run) (worker n : ℕ) (slice : Slice) → IsAtSome old → IsFitting old slice → Comes old new worker slice n → length new.lent < length old.lent
slice_home old new worker n slice s fits committed =
    let is = committed s.main s.machine s.at fits in
    subst (λ lent. length lent < length old.lent) (sym is.home) (without_fewer old.lent slice.thread fits.lent)

pub slice_logs : (old new : Run) (worker n : ℕ) (slice : Slice) → worker < 8 → n ≤ 256 → IsAtSome old → IsFitting old slice → Comes old new worker slice n → (n ≢ 0 → IsLonger old.log new.log) × (n ≡ 0 → new.log ≡ old.log)
slice_logs old new worker n slice low few s fits committed =
    let is = committed s.main s.machine s.at fits in (
      λ some. logged_one old.log new.log worker slice.thread n low few some is.logs,
      λ none. is.logs ∙ ap (logged_some old.log worker slice.thread) none,
    )

-- ---- a turn that was tried

pub tried_prints : (old new : Run) (t n : ℕ) → IsAtSome old → Tells old → Tells new → AtItsState old (λ main m. IsLedBy old new main m t n) → PrintsOn (printed old) (printed new)
tried_prints old new t n s before after led =
    let is = led s.main s.machine s.at in
    prints old new s.main s.machine is.after before after s.at is.at (entries_print old.verified.image s.machine is.after 0 t n (is.steps 0))

pub tried_logs : (old new : List Entry) (worker t n : ℕ) → worker < 8 → n ≤ 256 → new ≡ logged_some old worker t n → IsLongerBy (min 1 n) old new
tried_logs old new worker t zero low few is = inr (omega arith, is)
tried_logs old new worker t (suc n) low few is = inl (omega arith, logged_one old new worker t (suc n) low few (λ e. let none : suc n ≡ 0 = e in cc none) is)
