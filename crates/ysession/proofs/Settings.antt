-- Sessions with the same setting, and the machine of a session's tables.
use Rattle.std.proofs.Common.{◌≡◌, ap, refl}
use Rattle.ymachine.specs.MachineOver.{machine_over}
use Rattle.ysession.specs.declared.session.Session.{Session}
use Rattle.ysession.specs.Session.{Setting, machine_of, setting_of, tables_of}

-- what keeps its setting keeps its machine
pub same_machine : {s t : Setting} → s ≡ t → s.machine ≡ t.machine
same_machine e = ap (λ (s : Setting). s.machine) e

-- the machine of a session is the one of its tables
pub machine_over_tables : (s : Session) → machine_over (tables_of s) ≡ machine_of s
unfolding setting_of
machine_over_tables s = refl
