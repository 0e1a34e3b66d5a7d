-- `script::text::name_at` finds the place among the names by the key. Assumes nothing.
use Rattle.script.proofs.ByKey.{name_keys_lem, at_key, at_none}
use Rattle.script.proofs.text.name_at.Goals as goal

pub returns-in-5962296428 : goal.returns-in-5962296428
returns-in-5962296428 c = at_key name_keys_lem _ c.type_inv.s c.key-k.ensures c.in-5962296428.is

pub returns-in-6230991220 : goal.returns-in-6230991220
returns-in-6230991220 c = at_key name_keys_lem _ c.type_inv.s c.key-k.ensures c.in-6230991220.is

pub returns-in-6265464178 : goal.returns-in-6265464178
returns-in-6265464178 c = at_key name_keys_lem _ c.type_inv.s c.key-k.ensures c.in-6265464178.is

pub returns-in-6214872165 : goal.returns-in-6214872165
returns-in-6214872165 c = at_key name_keys_lem _ c.type_inv.s c.key-k.ensures c.in-6214872165.is

pub returns-in-393000050586745 : goal.returns-in-393000050586745
returns-in-393000050586745 c = at_key name_keys_lem _ c.type_inv.s c.key-k.ensures c.in-393000050586745.is

pub returns-in-405038810099316 : goal.returns-in-405038810099316
returns-in-405038810099316 c = at_key name_keys_lem _ c.type_inv.s c.key-k.ensures c.in-405038810099316.is

pub returns-in-6097038948 : goal.returns-in-6097038948
returns-in-6097038948 c = at_key name_keys_lem _ c.type_inv.s c.key-k.ensures c.in-6097038948.is

pub returns-in-6146846053 : goal.returns-in-6146846053
returns-in-6146846053 c = at_key name_keys_lem _ c.type_inv.s c.key-k.ensures c.in-6146846053.is

pub returns-in-1565070353772 : goal.returns-in-1565070353772
returns-in-1565070353772 c = at_key name_keys_lem _ c.type_inv.s c.key-k.ensures c.in-1565070353772.is

pub returns-in-5962298483 : goal.returns-in-5962298483
returns-in-5962298483 c = at_key name_keys_lem _ c.type_inv.s c.key-k.ensures c.in-5962298483.is

pub returns-in-407272008742003 : goal.returns-in-407272008742003
returns-in-407272008742003 c = at_key name_keys_lem _ c.type_inv.s c.key-k.ensures c.in-407272008742003.is

pub returns-in-100035120197103207 : goal.returns-in-100035120197103207
returns-in-100035120197103207 c = at_key name_keys_lem _ c.type_inv.s c.key-k.ensures c.in-100035120197103207.is

pub returns-in-408367125390692 : goal.returns-in-408367125390692
returns-in-408367125390692 c = at_key name_keys_lem _ c.type_inv.s c.key-k.ensures c.in-408367125390692.is

pub returns-in-398527572832114 : goal.returns-in-398527572832114
returns-in-398527572832114 c = at_key name_keys_lem _ c.type_inv.s c.key-k.ensures c.in-398527572832114.is

pub returns-in_default : goal.returns-in_default
returns-in_default c = at_none name_keys_lem _ c.type_inv.s c.key-k.ensures c.in_default.in_default-own.rest
