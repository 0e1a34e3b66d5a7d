-- To compute with the papers' rules on concrete tables: `unfolding computing` opens every definition at once.
use Rattle.bitset.specs.Tests.{every, either, implies, all, some}
use Rattle.bitset.specs.Sets.{has, join, minus, contains, with, without, keeping}
use Rattle.guard.specs.Label.{label_in_range_in, dominates, same_label}
use Rattle.guard.specs.Below.{below_within, below}
use Rattle.guard.specs.Told.{lowest}
use Rattle.guard.specs.Tables.{rights_of, role_has, role_for, has_right, is_child}
use Rattle.guard.specs.Chain.{climbs, ends_at_root, reaches}
use Rattle.guard.specs.Sound.{user_in_range_in, session_in_range_in, role_in_range, entity_in_range_in, users_in_range_in, edition_in_range, fields_in_range_in, is_root_record, roots_as_said, keepers_as_said, has_own_name, is_placed, entities_placed, is_mark_allowed, objects_unshared, is_empty_session, is_empty_role, is_empty_entity, dead_are_empty, dead_are_unused, rights_within, reading_within, writing_within, opens_backed, ties_join, none_below_itself, sound_in}
use Rattle.guard.specs.Fresh.{tabulate, fresh_role, fresh_entity, fresh}
use Rattle.guard.specs.Edits.{at_session, at_role, at_entity, each_session, each_role, take_role, drop_role, open_reading, open_writing, close_both, put_in, set_rights, add_rights, remove_rights, clear_rights, list_user, unlist_user, tie_junior, untie_junior, rename_to, mark_as}
use Rattle.guard.specs.Backed.{backed, end_unbacked}
use Rattle.guard.specs.Refusals.{first}
use Rattle.guard.specs.Conditions.{user_too_low, create_out_of_level, grant_below, tie_out_of_level, closes_cycle, cannot_open, cannot_change_in, cannot_change, not_open, name_taken, has_children, role_tied}
use Rattle.guard.specs.Requests.{field_in_range_in, logged_in, login, logout, take, drop, openr, openw, close, created, create, delete, rename, grant, revoke, list, unlist, make, unmake, share, join as joining, unjoin, unknown, rules, rule_of}
use Rattle.guard.specs.Step.{in_ranges_in, answer_in, next_in, role_opening, role_told_in, each_in}

unfoldable pub computing : Unit {0}
unfolding every either implies all some has join minus contains with without keeping label_in_range_in dominates same_label rights_of lowest below_within below role_has role_for has_right is_child climbs ends_at_root reaches user_in_range_in session_in_range_in role_in_range entity_in_range_in users_in_range_in edition_in_range fields_in_range_in is_root_record roots_as_said keepers_as_said has_own_name is_placed entities_placed is_mark_allowed objects_unshared is_empty_session is_empty_role is_empty_entity dead_are_empty dead_are_unused rights_within reading_within writing_within opens_backed ties_join none_below_itself sound_in tabulate fresh_role fresh_entity fresh at_session at_role at_entity each_session each_role take_role drop_role open_reading open_writing close_both put_in set_rights add_rights remove_rights clear_rights list_user unlist_user tie_junior untie_junior rename_to mark_as backed end_unbacked first user_too_low create_out_of_level grant_below tie_out_of_level closes_cycle cannot_open cannot_change_in cannot_change not_open name_taken has_children role_tied field_in_range_in logged_in login logout take drop openr openw close created create delete rename grant revoke list unlist make unmake share joining unjoin unknown rules rule_of in_ranges_in answer_in next_in role_opening role_told_in each_in
computing = tt
