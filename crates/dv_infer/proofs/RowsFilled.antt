-- Rows filled in, one address after another.
use Rattle.std.proofs.Common.{◌≡◌, ◌≢◌, ◌<◌, ◌≤◌, ◌+◌, ℕ, List, [], ◌∷◌, length, Option, Some, None, refl, sym, ap, ◌∙◌, subst, arith, inl, inr, zero, suc}
use Rattle.std.specs.Prelude.{IfSome, option_map, slice_set}
use lib.ListN.{get_or}
use Rattle.std.proofs.lemmas.Bool.{cases_eq, cases_lt}
use Rattle.std.proofs.lemmas.List.{get_or-set_same, get_or-set_other, get_or_default, length-set}
use Rattle.std.proofs.lemmas.Option.{same_Some}
use Rattle.dv_defs.specs.Op.{Code}
use Rattle.dv_defs.specs.Images.{Image}
use Rattle.dv_typing.specs.declared.typing.RegState.{RegState}
use Rattle.dv_typing.specs.Statics.{At, fetch}
use Rattle.dv_typing.specs.Transfer.{out}
use Rattle.dv_worklist.specs.Beside.{Kept, alone, fits_beside}
use Rattle.dv_worklist.specs.Flow.{assigned}
use Rattle.law_flow.specs.Fitting.{StateFits}
use Rattle.law_flow.proofs.TransferFits.{transfer_fits}
use Rattle.law_infer.specs.Flowing.{IsReady, fits_at}
use Rattle.law_gather.specs.Gathered.{addresses, fits_by, fits_gathered}
use Rattle.law_blocks.specs.Blocks.{AreBefore, state_after}
use Rattle.law_blocks.proofs.Filled.{IsFilled}
use Rattle.dv_bases.specs.Bases.{Names}
use Rattle.dv_plan.specs.declared.marks.Mark.{Mark}
use Rattle.dv_plan.specs.Marks.{before_by}
use Rattle.dv_infer.specs.Filling.{Rows, FitsAll, IsRowAfter, IsFilledAt, AreFilledTo}
use Rattle.dv_infer.proofs.Gathering.{less, fits_here}

abbrev Row : Type 0
Row = Kept RegState Names

abbrev state_in : Option Row → Option RegState
state_in o = option_map (λ r. r.state) o

alone_at : (xs : Rows) (place : ℕ) → assigned (alone xs) place ≡ state_in (assigned xs place)
alone_at [] place = refl
alone_at (x ∷ xs) zero = refl
alone_at (x ∷ xs) (suc place) = alone_at xs place

-- ---- a row that is read

fit_of : (names : Names) (code : Code) (k : ℕ) (o : Option Row) (xs : Rows) → assigned xs k ≡ o → FitsAll names code xs → IfSome o (fits_beside names (fits_gathered names.image code) k)
fit_of names code k None xs e all = tt
fit_of names code k (Some r) xs e all = all k r e

pub row_fits : (names : Names) (code : Code) (xs : Rows) (k : ℕ) (o : Option Row) → k < length xs → o ≡ get_or xs k o → FitsAll names code xs → IfSome o (fits_beside names (fits_gathered names.image code) k)
row_fits names code xs k o within read all = fit_of names code k o xs (get_or_default xs k None o within ∙ sym read) all

-- ---- a row that is set

pub filled_length : (names : Names) (code : Code) (at : ℕ) (o : Option ℕ) (ys zs : Rows) → IsFilledAt names code at o ys zs → length zs ≡ length ys
filled_length names code at None ys zs is = ap length is
filled_length names code at (Some from) ys zs is = ap length is.1 ∙ length-set ys at is.0

-- ---- the row after an instruction

pub none_after : (image : Image) (code : Code) (at : ℕ) (o : Option At) → state_after image code at o None ≡ None
none_after image code at None = refl
none_after image code at (Some x) = refl

-- a state that is there is what the instruction makes of one
record Comes (image : Image) (code : Code) (at : ℕ) (o : Option At) (s : Option RegState) (t : RegState) : Type 0 where
  pub insn : At
  pub fetched : o ≡ Some insn
  pub state : RegState
  pub there : s ≡ Some state
  pub is : t ≡ out image code.method at insn.op state

comes : (image : Image) (code : Code) (at : ℕ) (o : Option At) (s : Option RegState) (t : RegState) → Some t ≡ state_after image code at o s → Comes image code at o s t
comes image code at (Some x) (Some s) t e = record { insn = x; fetched = refl; state = s; there = refl; is = same_Some t (out image code.method at x.op s) e }
comes image code at (Some x) None t e = absurd (cc)
comes image code at None s t e = absurd (cc)

row_of : (o : Option Row) (s : RegState) → state_in o ≡ Some s → (r : Row) × (o ≡ Some r) × (r.state ≡ s)
row_of (Some r) s e = (r, refl, same_Some r.state s e)
row_of None s e = absurd (cc)

module _ (names : Names) (code : Code) (ready : IsReady names.image code) (marks : List Mark) (are : AreBefore names.image code (before_by marks)) where
  gathered_here : (at : ℕ) (s : RegState) → at < addresses code → fits_at names.image code at s → fits_gathered names.image code at s
  gathered_here at s within fits =
      subst (fits_by names.image code at s) (sym (less at (addresses code) within)) fits

  -- what is filled in fits
  after_fits : (ys : Rows) → FitsAll names code ys → (from at : ℕ) → at < addresses code → before_by marks at ≡ Some from → (r : Row) → state_in (Some r) ≡ state_after names.image code from (fetch names.image code.method.id from) (state_in (assigned ys from)) →
      fits_gathered names.image code at r.state
  after_fits ys fit from at within b r e =
      let g = are.straight from at b in
      let c = comes names.image code from (fetch names.image code.method.id from) (state_in (assigned ys from)) r.state e in
      let q = row_of (assigned ys from) c.state c.there in
      let before : from < addresses code = omega (arith, g.rises, within) in
      let was = fits_here names.image code from q.0.state c.state before (sym q.2) (fit from q.0 q.1).1 in
      let here : StateFits names.image code (out names.image code.method from c.insn.op c.state) =
      transfer_fits names.image code ready.code_is ready.clean from c.insn c.fetched c.state was.1 in
      gathered_here at r.state within (g.leads, subst (λ (t : RegState). StateFits names.image code t) (sym c.is) here)

  -- ---- one more address

  module _ (xs ys : Rows) (at : ℕ) (within : at < addresses code) (long : addresses code ≤ length ys) (fit : FitsAll names code ys) (part : AreFilledTo names code (before_by marks) at xs ys) where
    abbrev More : Rows → Type 0
    More zs = AreFilledTo names code (before_by marks) (at + 1) xs zs × FitsAll names code zs

    at_head : before_by marks at ≡ None → More ys
    at_head none = (
      record {
        heads = λ to h b. elim (cases_eq to at) [
          | inl same ↦ part.rest to (omega (arith, same))
          | inr other ↦ part.heads to (omega (arith, h, other)) b
        ];
        steps = λ p to h b. elim (cases_eq to at) [
          | inl same ↦ absurd (let e = sym none ∙ (ap (before_by marks) (sym same) ∙ b) in cc)
          | inr other ↦ part.steps p to (omega (arith, h, other)) b
        ];
        rest = λ to h. part.rest to (omega (arith, h));
      },
      fit,
    )

    behind : (from : ℕ) → before_by marks at ≡ Some from → (row : Option Row) → IsRowAfter names code from (assigned ys from) row → More (slice_set ys at row)
    behind from b row after =
        let zs = slice_set ys at row in
        let inside : at < length ys = omega (arith, within, long) in
        let here : assigned zs at ≡ row = get_or-set_same ys at row None inside in
        let other : (k : ℕ) → k ≢ at → assigned zs k ≡ assigned ys k = λ k differs. get_or-set_other ys at k row None differs in (
          record {
            heads = λ to h none. elim (cases_eq to at) [
              | inl same ↦ absurd (let e = sym b ∙ (ap (before_by marks) (sym same) ∙ none) in cc)
              | inr differs ↦ other to differs ∙ part.heads to (omega (arith, h, differs)) none
            ];
            steps = λ p to h e. elim (cases_eq to at) [
              | inl same ↦
                  let from_is : from ≡ p = same_Some from p (sym b ∙ (ap (before_by marks) (sym same) ∙ e)) in
                  let rises = (are.straight from at b).rises in
                  let apart : from ≢ at = λ q. absurd (omega (arith, rises, q)) in
                  let made : state_in (assigned zs at) ≡ state_after names.image code from (fetch names.image code.method.id from) (state_in (assigned zs from)) =
                  ap state_in here ∙ (after.state ∙ ap (λ o. state_after names.image code from (fetch names.image code.method.id from) (state_in o)) (sym (other from apart))) in
                  subst (λ (k : ℕ). state_in (assigned zs k) ≡ state_after names.image code p (fetch names.image code.method.id p) (state_in (assigned zs p))) (sym same)
                  (subst (λ (k : ℕ). state_in (assigned zs at) ≡ state_after names.image code k (fetch names.image code.method.id k) (state_in (assigned zs k))) from_is made)
              | inr differs ↦
                  let rises = (are.straight p to e).rises in
                  let apart : p ≢ at = λ q. absurd (omega (arith, rises, q, h, differs)) in
                  ap state_in (other to differs) ∙ (part.steps p to (omega (arith, h, differs)) e ∙
                  ap (λ o. state_after names.image code p (fetch names.image code.method.id p) (state_in o)) (sym (other p apart)))
            ];
            rest = λ to h. other to (λ q. absurd (omega (arith, h, q))) ∙ part.rest to (omega (arith, h));
          },
          λ place r e. elim (cases_eq place at) [
            | inl same ↦
                let is : row ≡ Some r = sym here ∙ subst (λ (k : ℕ). assigned zs k ≡ Some r) same e in
                let fits = after_fits ys fit from at within b r (ap state_in (sym is) ∙ after.state) in
                (after.kept r is, subst (λ (k : ℕ). fits_gathered names.image code k r.state) (sym same) fits)
            | inr differs ↦ fit place r (sym (other place differs) ∙ e)
          ],
        )

    more_by : (o : Option ℕ) → before_by marks at ≡ o → (zs : Rows) → IsFilledAt names code at o ys zs → More zs
    more_by None b zs is = subst More (sym is) (at_head b)
    more_by (Some from) b zs is = subst More (sym is.1) (behind from b is.0 is.2)

    pub one_more : (zs : Rows) → IsFilledAt names code at (before_by marks at) ys zs → More zs
    one_more zs is = more_by (before_by marks at) refl zs is

  pub none_yet : (xs : Rows) → AreFilledTo names code (before_by marks) 0 xs xs
  none_yet xs = record { heads = λ to h. absurd (omega (arith, h)); steps = λ at to h. absurd (omega (arith, h)); rest = λ to h. refl }

  -- ---- all of them

  pub are_filled : (xs ys : Rows) → AreFilledTo names code (before_by marks) (addresses code) xs ys → ((to at : ℕ) → before_by marks to ≡ Some at → to < addresses code) → IsFilled names.image code (before_by marks) (assigned (alone xs)) (assigned (alone ys))
  are_filled xs ys part within =
      record {
        head = λ at none. alone_at ys at ∙ (ap state_in (elim (cases_lt at (addresses code)) [
          | inl h ↦ part.heads at h none
          | inr past ↦ part.rest at past
        ]) ∙ sym (alone_at xs at));
        step = λ at to b. alone_at ys to ∙ (part.steps at to (within to at b) b ∙
            ap (λ o. state_after names.image code at (fetch names.image code.method.id at) o) (sym (alone_at ys at)));
      }
