-- A day that was worked out by hand, as one statement about the definitions.
use Rattle.std.specs.Prelude.{◌≡◌, ℕ, true, false, [], ◌∷◌, Some, None}
use Rattle.terms.specs.declared.record.RecordId.{RecordId}
use Rattle.terms.specs.declared.record.Value.{Value}
use Rattle.terms.specs.declared.record.Change.TheVariants.{Set, Delete}
use Rattle.terms.specs.declared.record.Query.{Query}
use Rattle.terms.specs.declared.record.Query.TheVariants.{Get, Tally}
use Rattle.terms.specs.declared.interval.Until.{Until}
use Rattle.terms.specs.declared.interval.Until.TheVariants.{Ended, Open}
use Rattle.terms.specs.Records.{Reading, query_tag}
use Rattle.database.specs.declared.Answer.{Answer}
use Rattle.versions.specs.Versions.{state_at}
use Rattle.versions.specs.Stores.{Store, empty_at, pinned, written, answer_at}
use Rattle.cache.specs.declared.entry.Entry.{Entry}
use Rattle.cache.specs.TagSets.{packed}
use Rattle.cache.specs.Calls.{Looks}
use Rattle.recipe.specs.Recipes.{Gives}
use Rattle.recipe.specs.Sheets.{attendant, board}
use Rattle.model.specs.Books.{Pin, Transaction}
use Rattle.model.specs.Rules.{is_fresh, wants_present}

abbrev pub door : RecordId
door = record { table = 0; key = 5 }

abbrev pub ticket : RecordId
ticket = record { table = 1; key = 900 }

abbrev pub valued : ℕ → ℕ → Value
valued state word = record { state = state; word = word }

-- start at 10; door 5 becomes (0, 0) at 11; ticket 900 (1, 5) and door 5 (1, 900) at 12; at 13 the ticket goes and door 5 is (0, 0);
-- moments 10 to 13 are each pinned while latest
abbrev pub at10 : Store
at10 = pinned (empty_at 16 10)

abbrev pub at11 : Store
at11 = pinned (written (Set door (valued 0 0) ∷ []) at10)

abbrev pub at12 : Store
at12 = pinned (written (Set ticket (valued 1 5) ∷ Set door (valued 1 900) ∷ []) at11)

abbrev pub at13 : Store
at13 = pinned (written (Delete ticket ∷ Set door (valued 0 0) ∷ []) at12)

-- an answer, as a person writes it
abbrev pub told : Query → Reading → ℕ → Until → Answer
told query reading first until = record { reading = reading; tag = query_tag query; interval = record { first = first; until = until } }

-- an entry without tags
abbrev pub entry_of : Reading → ℕ → Until → Entry
entry_of reading first until = record { key = record { sheet = 0; argument = 0 }; reading = reading; interval = record { first = first; until = until }; tags = packed [] }

abbrev pub pin_of : ℕ → ℕ → Pin
pin_of moment time = record { moment = moment; time = time; uses = 0 }

-- a transaction whose set is the present and one moment
abbrev pub waiting : Transaction
waiting = record { number = 1; present = true; set = 12 ∷ []; holds = 12 ∷ []; frames = [] }

pub record Worked : Type 0 where
  -- door 5 at 11: (0, 0), from 11, end 12; at 12: (1, 900), end 13; at 13: open, through 13
  pub door_at_11 : answer_at at13 11 (Get door) ≡ told (Get door) (Some (0, 0)) 11 (Ended 12)
  pub door_at_12 : answer_at at13 12 (Get door) ≡ told (Get door) (Some (1, 900)) 12 (Ended 13)
  pub door_at_13 : answer_at at13 13 (Get door) ≡ told (Get door) (Some (0, 0)) 13 (Open 13)
  -- free doors at 12: absent, from 12, end 13
  pub free_at_12 : answer_at at13 12 (Tally 0 0) ≡ told (Tally 0 0) None 12 (Ended 13)
  -- entries 11 to end 12 and open from 13, list 11, 13: T = 12 gives the first, T = 13 the second
  pub look_at_12 : Looks (entry_of (Some (0, 0)) 11 (Ended 12) ∷ entry_of None 13 (Open 13) ∷ []) (record { sheet = 0; argument = 0 }) (11 ∷ 13 ∷ []) 12 (Some (entry_of (Some (0, 0)) 11 (Ended 12)))
  pub look_at_13 : Looks (entry_of (Some (0, 0)) 11 (Ended 12) ∷ entry_of None 13 (Open 13) ∷ []) (record { sheet = 0; argument = 0 }) (11 ∷ 13 ∷ []) 13 (Some (entry_of None 13 (Open 13)))
  -- pin time 100, limit 30: fresh at 130, not at 131
  pub fresh_at_130 : is_fresh 130 30 (pin_of 12 100) ≡ true
  pub old_at_131 : is_fresh 131 30 (pin_of 12 100) ≡ false
  -- newest time 100: taken at 105; at 106 the present
  pub taken_at_105 : wants_present 105 (pin_of 12 100 ∷ []) waiting ≡ false
  pub present_at_106 : wants_present 106 (pin_of 12 100 ∷ []) waiting ≡ true
  -- the claim sheet of ticket 900 at 12: (1, 5); at 13 absent
  pub claim_at_12 : Gives attendant (state_at at13.kept 12) 0 900 (Some (1, 5))
  pub claim_at_13 : Gives attendant (state_at at13.kept 13) 0 900 None
  -- the board's sheet 1 at 12: (0, 1)
  pub board_at_12 : Gives board (state_at at13.kept 12) 1 0 (Some (0, 1))
