-- What linking gives of an image is what the laws of the machine take.
use Rattle.law_linked.specs.Laws.{LinkedImagesHaveLinking, LinkedTypesAreOrdered, LinkedTypesHaveCommon, LinkedTablesAgree, LinkedRunsNeverGoWrong}
use Rattle.law_types.proofs.Laws.{types_are_ordered}
use Rattle.law_machine.proofs.lemmas.Bridge.Laws.{bridge_holds}
use Rattle.law_machine.proofs.lemmas.Opening.State.{opening_is_well_typed}
use Rattle.law_machine.proofs.lemmas.Steps.Sound.{steps_are_sound}
use Rattle.law_machine.proofs.lemmas.Steps.Runs.{runs_never_go_wrong}
use Rattle.std.proofs.Common.{ap, ◌∙◌}
use Rattle.std.specs.Prelude.{slice_index_or}
use Rattle.std.specs.List.{position_or_len}
use Rattle.dv_defs.specs.declared.image.Select.TheVariants as select
use Rattle.dv_defs.specs.LookUp.{is_method_of}
use Rattle.dv_defs.specs.Linked.{keyed_at}
use Rattle.law_types.proofs.Arrays.{super_common}
use Rattle.law_linking.proofs.TableLaws.{image_table}
use Rattle.law_linking.proofs.SelectLaws.{table_selects}
use Rattle.law_flow.proofs.HierarchyLaw.{image_hierarchy}
use Rattle.law_linked.proofs.SlotsLaw.{image_slots}
use Rattle.law_linked.proofs.BodiesLaw.{image_bodies}
use Rattle.law_linked.proofs.PoolsLaw.{image_pools}
use Rattle.law_linked.proofs.InitsLaw.{image_inits}
use Rattle.law_linked.proofs.BootLaw.{image_boot}

pub linked_images_have_linking : LinkedImagesHaveLinking
linked_images_have_linking image is =
    record {
      hierarchy = image_hierarchy image is;
      slots = image_slots image is;
      bodies = image_bodies image is;
      pools = image_pools image is;
      inits = image_inits image is;
      boot = image_boot image is;
    }

pub linked_types_are_ordered : LinkedTypesAreOrdered
linked_types_are_ordered image is = types_are_ordered image (image_hierarchy image is)

pub linked_runs_never_go_wrong : LinkedRunsNeverGoWrong
linked_runs_never_go_wrong image is = runs_never_go_wrong bridge_holds opening_is_well_typed steps_are_sound image (linked_images_have_linking image is)

pub linked_types_have_common : LinkedTypesHaveCommon
linked_types_have_common image is a b first second =
    let common = super_common image (image_hierarchy image is) a b first second in
    record { first = common.first; second = common.second; least = common.least }

pub linked_tables_agree : LinkedTablesAgree
linked_tables_agree image is c info there name p =
    ap (λ table. slice_index_or table (position_or_len (is_method_of name p) (keyed_at image c)) select.Abstract) (image_table image is c info there) ∙
    table_selects image c name p
