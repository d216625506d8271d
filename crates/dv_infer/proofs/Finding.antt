-- What the least assignment of a body says of it.
use Rattle.std.proofs.Common.{◌≡◌, ◌≢◌, ℕ, List, [], length, take, Option, Some, sym, ◌∙◌, subst}
use Rattle.std.proofs.lemmas.List.{take-map}
use Rattle.std.specs.Prelude.{option_map}
use Rattle.dv_defs.specs.declared.faults.Fault.{Fault}
use Rattle.dv_typing.specs.declared.typing.RegState.{RegState}
use Rattle.dv_defs.specs.Images.{Image}
use Rattle.dv_defs.specs.Linked.{IsImage}
use Rattle.dv_defs.specs.Op.{Code, code_at}
use Rattle.dv_typing.specs.Flow.{IsLeast}
use Rattle.dv_typing.specs.Accepting.{static_places, typing_faults}
use Rattle.law_flow.proofs.CleanLaw.{clean_bodies}
use Rattle.law_flow.proofs.HierarchyLaw.{linked_classes_are_hierarchies}
use Rattle.law_flow.proofs.Statics.{own_code}
use Rattle.dv_worklist.specs.Flow as worklist
use Rattle.dv_worklist.specs.Flow.{Flow, AllFit, IsLawful, assigned}
use Rattle.law_infer.specs.Flowing.{IsReady, flow_of, fits_at, rank_of, top_of}
use Rattle.law_infer.specs.Laws.{faults_from}
use Rattle.law_infer.proofs.ByAddress.{faults_are_by_address}
use Rattle.law_infer.proofs.Closed.{least_assignments_are_least}
use Rattle.law_infer.proofs.Judged.{no_faults_give_typings, faults_refuse_typings}
use Rattle.law_gather.specs.Gathered.{addresses, gathered_flow, fits_gathered}
use Rattle.law_blocks.specs.Blocks.{Before, AreBefore, blocks_flow, fits_blocks}
use Rattle.law_blocks.proofs.Filled.{IsFilled, filled_to}
use Rattle.law_blocks.proofs.Lawful.{block_flows_are_lawful}
use Rattle.law_blocks.proofs.Least.{block_assignments_are_least}
use Rattle.dv_plan.specs.declared.marks.Mark.{Mark}
use Rattle.dv_plan.specs.Marks.{before_by}
use Rattle.dv_infer.specs.Filling.{Rows, FitsAll}
use Rattle.law_gather.specs.Laws.{at_instructions}
use Rattle.law_gather.proofs.Least.{gathered_assignments_are_least}
use Rattle.dv_infer.specs.Judged.{IsJudged, AreJudged}
use Rattle.dv_infer.specs.Owned.{NamedCode}
use Rattle.dv_bases.specs.Bases.{Names}
use Rattle.dv_worklist.specs.Beside.{Kept, flow_beside, fits_beside, rank_beside, alone}
use Rattle.dv_worklist.proofs.Beside.{lawful_beside, alone_fit, least_alone}

-- a body of a linked image that breaks no static rule is ready
pub is_ready : (image : Image) (n : ℕ) (code : Code) → IsImage image → code_at image n ≡ Some code → static_places image code ≡ [] → IsReady image code
is_ready image n code is has none =
    let linked = linked_classes_are_hierarchies image is in
    record {
      hierarchy = linked.0;
      object = linked.1;
      code_is = own_code image n code has;
      clean = (clean_bodies image n code has none).1;
    }

-- ---- its flow

abbrev named : Names → Code → List Mark → NamedCode
named names code marks = record { names = names; code = code; marks = marks }

abbrev block_flow : NamedCode → Flow (Kept RegState Names)
block_flow m = flow_beside m.names (blocks_flow m.names.image m.code (before_by m.marks))

abbrev block_fits : NamedCode → ℕ → Kept RegState Names → Type 0
block_fits m = fits_beside m.names (fits_blocks m.names.image m.code (before_by m.marks))

module _ (names : Names) (code : Code) (marks : List Mark) (ready : IsReady names.image code) (are : AreBefore names.image code (before_by marks)) (m : NamedCode) (e : m ≡ named names code marks) where
  abbrev before : Before
  before = before_by marks

  pub is_lawful : IsLawful (block_flow m) (block_fits m) (rank_beside (rank_of m.names.image m.code)) (top_of m.names.image m.code)
  is_lawful =
      subst (λ (o : NamedCode). IsLawful (block_flow o) (block_fits o) (rank_beside (rank_of o.names.image o.code)) (top_of o.names.image o.code)) (sym e)
      (lawful_beside names (blocks_flow names.image code before) (fits_blocks names.image code before) (rank_of names.image code) (top_of names.image code) (block_flows_are_lawful names.image code before ready are))

  -- its rows fit the flow that gathers
  module _ (xs : Rows) (fit : AllFit (block_fits m) (assigned xs)) where
    own_fit : AllFit (block_fits (named names code marks)) (assigned xs)
    own_fit = subst (λ (o : NamedCode). AllFit (block_fits o) (assigned xs)) e fit

    pub rows_fit : FitsAll names code xs
    rows_fit place r there = let f = own_fit place r there in (f.0, f.1.0)

    -- its states, filled in between and cut to the instructions
    module _ (l : worklist.IsLeast (block_flow m) (assigned xs)) (ys : Rows) (f : IsFilled names.image code before (assigned (alone xs)) (assigned (alone ys))) where
      all_fit : AllFit (fits_blocks names.image code before) (assigned (alone xs))
      all_fit = alone_fit names (blocks_flow names.image code before) (fits_blocks names.image code before) xs own_fit

      all_least : worklist.IsLeast (blocks_flow names.image code before) (assigned (alone xs))
      all_least = least_alone names (blocks_flow names.image code before) xs (subst (λ (o : NamedCode). worklist.IsLeast (block_flow o) (assigned xs)) e l)

      abbrev gathers : worklist.IsLeast (gathered_flow names.image code) (assigned (alone ys)) × AllFit (fits_gathered names.image code) (assigned (alone ys))
      gathers =
          block_assignments_are_least names.image code before ready are (assigned (alone xs)) all_fit all_least (assigned (alone ys))
          (filled_to names.image code before are (assigned (alone xs)) (assigned (alone ys)) f)

      cut : alone (take (addresses code) ys) ≡ at_instructions code (alone ys)
      cut = sym (take-map (option_map (λ (a : Kept RegState Names). a.state)) (addresses code) ys)

      pub fits : AllFit (fits_at names.image code) (assigned (alone (take (addresses code) ys)))
      fits = subst (λ zs. AllFit (fits_at names.image code) (assigned zs)) (sym cut) (gathered_assignments_are_least names.image code ready (alone ys) gathers.1 gathers.0).1

      pub least : worklist.IsLeast (flow_of names.image code) (assigned (alone (take (addresses code) ys)))
      least = subst (λ zs. worklist.IsLeast (flow_of names.image code) (assigned zs)) (sym cut) (gathered_assignments_are_least names.image code ready (alone ys) gathers.1 gathers.0).0

-- ---- what is found

module _ (image : Image) (code : Code) (ready : IsReady image code) (xs : List (Option RegState)) (fit : AllFit (fits_at image code) (assigned xs)) (l : worklist.IsLeast (flow_of image code) (assigned xs)) where
  is_least : IsLeast image code (assigned xs)
  is_least = least_assignments_are_least image code ready xs fit l

  abbrev Told : List Fault → Type 0
  Told fs = fs ≡ faults_from image code (assigned xs) 0 (length code.body.units)

  told_is : (fs : List Fault) → Told fs → fs ≡ typing_faults image code (assigned xs) code.tiles
  told_is fs told = told ∙ faults_are_by_address image code ready xs fit

  pub is_judged : (fs : List Fault) → Told fs → fs ≡ [] → IsJudged image code (record { states = xs })
  is_judged fs told none =
      let faultless = sym (told_is fs told) ∙ none in
      record {
        typing = no_faults_give_typings image code ready (assigned xs) is_least faultless;
        least = is_least;
        faultless = faultless;
      }

  pub are_judged : (fs : List Fault) → Told fs → fs ≢ [] → AreJudged image code fs
  are_judged fs told some =
      record {
        typing = assigned xs;
        least = is_least;
        are = told_is fs told;
        some = some;
        refused = faults_refuse_typings image code ready (assigned xs) is_least (λ none. some (told_is fs told ∙ none));
      }
