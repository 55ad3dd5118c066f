-- By the kind.
use Rattle.validator.proofs.WordTests.{record_active, record_passive, record_other}
use Rattle.validator.proofs.known_record.Goals as goal

pub returns-in-0 : goal.returns-in-0
returns-in-0 c = record_active _ _ _ _ _ c.in-0.is c.known_active.ensures

pub returns-in-1 : goal.returns-in-1
returns-in-1 c = record_passive _ _ _ _ _ c.in-1.is c.known_passive.ensures

pub returns-in_default : goal.returns-in_default
returns-in_default c = record_other _ _ _ _ c.in_default.in_default-own.rest.0.1 c.in_default.in_default-own.rest.1
