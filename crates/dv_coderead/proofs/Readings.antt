-- What is read where one reading goes by another.
use Rattle.std.proofs.Common.{◌≡◌, Option, Result, Ok, ap, ◌∙◌}
use Rattle.dv_defs.specs.declared.faults.LineKind.{LineKind}
use Rattle.dv_names.specs.declared.error.NameError.{NameError}
use Rattle.dv_names.specs.declared.error.NameError.TheVariants as error
use Rattle.dv_names.specs.Grammar.{Refuses}
use Rattle.dv_coderead.specs.declared.refusal.Refusal.{Refusal}
use Rattle.dv_coderead.specs.declared.refusal.Refusal.TheVariants as refusal
use Rattle.dv_coderead.specs.Giving.{Fails, ◌>>=◌}
use Rattle.dv_coderead.specs.References.{refusal_of, unless_refused}

-- a descriptor's refusal is its reading's
pub fails_refused : {X : Type 0} (x : X) (found : Option NameError) (e : NameError) → Refuses e found → Fails (refusal_of e) (unless_refused found x)
fails_refused x found (error.BadDescriptor n) is = ap (λ o. unless_refused o x) is
fails_refused x found (error.FloatType n) is = ap (λ o. unless_refused o x) is
fails_refused x found error.Memory is = tt

module _ {X Y : Type 0} (read : Result X LineKind) (next : X → Result Y LineKind) where
  -- the fault of a reading is that of what goes by it
  pub fails_first : (e : Refusal) → Fails e read → Fails e (read >>= next)
  fails_first refusal.Memory is = tt
  fails_first (refusal.Fault k) is = ap (λ r. r >>= next) is

  pub fails_next : (x : X) (e : Refusal) → read ≡ Ok x → Fails e (next x) → Fails e (read >>= next)
  fails_next x refusal.Memory same is = tt
  fails_next x (refusal.Fault k) same is = ap (λ r. r >>= next) same ∙ is

  pub reads_next : (x : X) (y : Y) → read ≡ Ok x → next x ≡ Ok y → (read >>= next) ≡ Ok y
  reads_next x y same is = ap (λ r. r >>= next) same ∙ is
