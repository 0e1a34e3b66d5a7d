-- The ranges in force: the width is `all_categories`.
use Rattle.std.specs.Prelude.{Bool}
use Rattle.guard.specs.Label.{all_categories}
use Rattle.guard.specs.Sound.{user_in_range_in, session_in_range_in, entity_in_range_in, fields_in_range_in}
use Rattle.guard.specs.Requests.{Field, field_in_range_in}
use Rattle.guard.specs.Step.{in_ranges_in}
use Rattle.guard.specs.declared.User.{User}
use Rattle.guard.specs.declared.Session.{Session}
use Rattle.guard.specs.declared.Entity.{Entity}
use Rattle.guard.specs.declared.Tables.{Tables}
use Rattle.guard.specs.declared.Request.{Request}

abbrev pub user_in_range : User → Bool
user_in_range = user_in_range_in all_categories

abbrev pub session_in_range : Session → Bool
session_in_range = session_in_range_in all_categories

abbrev pub entity_in_range : Entity → Bool
entity_in_range = entity_in_range_in all_categories

abbrev pub fields_in_range : Tables → Bool
fields_in_range = fields_in_range_in all_categories

abbrev pub field_in_range : Request → Field → Bool
field_in_range = field_in_range_in all_categories

abbrev pub in_ranges : Request → Bool
in_ranges = in_ranges_in all_categories
