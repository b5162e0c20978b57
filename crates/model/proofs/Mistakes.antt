-- Each of the three mistakes gives a wrong reading: the halls after each call of the three lists.
use Rattle.std.proofs.Common.{◌≡◌, ℕ, Bool, true, false, not, ◌&&◌, leb, List, [], ◌∷◌, ◌++◌, map, length, Some, None, refl, ap, ◌∙◌, inl, inr, ⊎_elim, arith, lit<, Ok}
use Rattle.std.proofs.lemmas.Bool.{both_ways, and_parts, leb-true}
use Rattle.terms.specs.declared.record.Query.{Query}
use Rattle.terms.specs.declared.record.Query.TheVariants.{Get, Tally}
use Rattle.terms.specs.declared.interval.Until.TheVariants.{Open as Since}
use Rattle.terms.specs.declared.record.Change.TheVariants.{Set}
use Rattle.terms.specs.declared.tag.Tag.{Tag}
use Rattle.terms.specs.Moments.{highest}
use Rattle.terms.specs.Records.{Reading, change_tag}
use Rattle.std.specs.List.{list_all}
use Rattle.database.specs.Lists.{distinct}
use Rattle.database.specs.Rows.{unique}
use Rattle.database.proofs.Rows.{keys_in}
use Rattle.database.specs.States.{Records, KeysIn, in_state}
use Rattle.database.specs.Writes.{changed}
use Rattle.database.specs.Databases.{Sound}
use Rattle.validity.specs.Versions.{rows_at, dated}
use Rattle.versions.specs.Versions.{state_at}
use Rattle.versions.specs.Stores.{Store, meaning, pinned as pinnedIn, written, answer_at, Good}
use Rattle.versions.specs.Soundness.{sound}
use Rattle.versions.proofs.Meanings.{pins_latest, unpins_all, writes}
use Rattle.versions.proofs.Asking.{answers}
use Rattle.versions.proofs.Writing.{apart_changes}
use Rattle.cache.specs.declared.entry.Entry.{Entry}
use Rattle.cache.specs.declared.key.Key.{Key}
use Rattle.cache.specs.Lists.{Among, Same}
use Rattle.cache.specs.TagSets.{packed}
use Rattle.cache.specs.Entries.{answers as covered, gives_way, closed}
use Rattle.cache.specs.Calls.{Looks, Inserts, Closes}
use Rattle.cache.proofs.Members.{among_map, among_mapped}
use Rattle.recipe.specs.declared.Ask.TheVariants.{Query as Asked}
use Rattle.recipe.specs.Recipes.{Rules, Gives, call, done}
use Rattle.recipe.specs.Sheets.{attendant, board}
use Rattle.recipe.proofs.Runs.{value_is_one}
use Rattle.recipe.proofs.Worths.{claim_gives, tally_runs}
use Rattle.model.specs.declared.call.Call.TheVariants.{Begin, Sheet, Step, Query as Directly, Deliver}
use Rattle.model.specs.declared.call.Reply.TheVariants.{Began, Read, Open, Delivered}
use Rattle.model.specs.Books.{Pin, Frame, Transaction, Row, Hall, limitless, fresh_frame}
use Rattle.model.specs.Rules.{pinned, taken}
use Rattle.model.specs.Calls.{of_query, of_sheet, began, miss, hit, queried, step_query, step_hit, step_last, wrote, delivered, rows_of_write, ClosesAll, none, more}
use Rattle.model.specs.Traces.{Origin, Event, records_at, Lives, made as living}
use Rattle.model.specs.Worked.{door, ticket, valued}
use Rattle.model.specs.Wrong.{Mistake, Strays, rightly, wrongly, Wanders, made, then, Breaks, beyond_t, leaves_open, forgets_tags, empty, origin, arrival, arrives, quiet, gives, asked, tallies, counted, untagged, finished, reader, no_bag, calls_beyond, calls_late, calls_forgetful}

-- the stores of the lists: 10 pinned, the guest's write, 11 pinned
abbrev first : Store
first = pinnedIn empty

abbrev second : Store
second = written arrival first

abbrev third : Store
third = pinnedIn second

abbrev fine : Store → Bool
fine s =
    leb s.places 4096 && (leb (length s.kept) s.places && (leb s.latest highest && (leb (length s.pins) 32
    && (distinct s.pins && (list_all (λ pin. leb pin s.latest) s.pins && list_all (dated s.latest) s.kept)))))

good_if : (s : Store) → fine s ≡ true → ((m : ℕ) → unique (rows_at m s.kept) ≡ true) → Good s
good_if s ok apart =
    let a = and_parts _ _ ok in
    let b = and_parts _ _ a.1 in
    let c = and_parts _ _ b.1 in
    let d = and_parts _ _ c.1 in
    let e = and_parts _ _ d.1 in
    let f = and_parts _ _ e.1 in
    record {
      size = leb-true _ _ a.0;
      fits = leb-true _ _ b.0;
      moment = leb-true _ _ c.0;
      few = leb-true _ _ d.0;
      once = e.0;
      past = f.0;
      dates = f.1;
      apart = apart;
    }

good_empty : Good empty
good_empty = good_if empty refl (λ m. refl)

good_first : Good first
good_first = good_if first refl (λ m. refl)

apart_after : (m : ℕ) → unique (rows_at m second.kept) ≡ true
apart_after = apart_changes 11 arrival [] refl (λ m. refl)

good_second : Good second
good_second = good_if second refl apart_after

good_third : Good third
good_third = good_if third refl apart_after

-- what each call needs
everything : {X : Type 0} (p : X → Bool) (xs : List X) (x : X) → list_all p xs ≡ true → Among x xs → p x ≡ true
everything p [] x e a = absurd a
everything p (y ∷ xs) x e a =
    let parts = and_parts _ _ e in ⊎_elim (λ is. ap p is ∙ parts.0) (λ rest. everything p xs x parts.1 rest) a

same : (es : List Entry) → Same es es
same es = record { there = λ x a. a; back = λ x a. a }

missed : (es : List Entry) (key : Key) (ms : List ℕ) (T : ℕ) → list_all (λ e. list_all (λ m. not (covered key T e m)) ms) es ≡ true → Looks es key ms T None
missed es key ms T ok e a m b c =
    let one = everything (λ e. list_all (λ m. not (covered key T e m)) ms) es e ok a in
    let two = everything (λ m. not (covered key T e m)) ms m one b in
    both_ways (not (covered key T e m)) (ap not c) two

found : (es : List Entry) (key : Key) (m T : ℕ) (e : Entry) → Among e es → covered key T e m ≡ true → Looks es key (m ∷ []) T (Some e)
found es key m T e a c = (a, (m, inl refl, c, λ f b n d ans. ⊎_elim (λ is. omega arith) (λ none. absurd none) d))

inserted : (es : List Entry) (new : Entry) → ((e : Entry) → Among e es → gives_way new e ≡ false) → Inserts es new (new ∷ es)
inserted es new clear = record {
  added = inl refl;
  old = λ e a. ⊎_elim (λ is. inl is) (λ rest. inr (rest, clear e rest)) a;
  gone = None;
  kept = λ e a g. inl (inr a);
}

closes_each : (tag : Tag) (n : ℕ) (es : List Entry) → Closes es tag n (map (closed tag n) es)
closes_each tag n es = record { each = λ e a. among_map (closed tag n) e es a; only = λ e a. among_mapped (closed tag n) e es a }

-- the books and halls of the lists
abbrev tx_of : ℕ → Bool → List ℕ → List Frame → Transaction
tx_of number present set frames = record { number = number; present = present; set = set; holds = set; frames = frames }

abbrev pin_at : ℕ → ℕ → Pin
pin_at moment time = record { moment = moment; time = time; uses = 1 }

abbrev hall_of : Store → List Entry → ℕ → List Pin → List Transaction → ℕ → List Row → Hall
hall_of s entries next pins txs T rows =
    record { db = meaning s; entries = entries; books = record { next = next; pins = pins; txs = txs; delivered = T; size = 16; rows = rows } }

abbrev started : Hall
started = hall_of empty [] 1 [] [] 10 []

starts : (rules : Rules) → Lives rules origin [] started
starts rules =
    living (meaning empty) 1 16 started (record { accepted = refl; unpins = unpins_all empty; cleared = refl; books = refl }) (sound empty good_empty) refl (λ t k. refl)

abbrev ticket_tag : Tag
ticket_tag = record { table = 1; key = Some 900 }

-- the claim sheet of ticket 900, once the ticket was asked for at 10
abbrev claiming : Frame
claiming = record {
  point = record { sheet = 0; argument = 900; stage = 1; carry = 0; last = None };
  answers = 1;
  part = record { interval = record { first = 0; until = Since 10 }; tags = ticket_tag ∷ [] };
}

-- what it enters: no bag, from 0 on
abbrev claim : Entry
claim = record { key = record { sheet = 0; argument = 900 }; reading = None; interval = record { first = 0; until = Since 10 }; tags = packed (ticket_tag ∷ []) }

abbrev fresh : ℕ → Transaction
fresh number = tx_of number true [] []

abbrev at : ℕ → ℕ → Transaction
at number moment = tx_of number false (moment ∷ []) []

abbrev with_claim : Transaction
with_claim = tx_of 1 false (10 ∷ []) (claiming ∷ [])

abbrev pins10 : List Pin
pins10 = pin_at 10 0 ∷ []

abbrev pins11 : List Pin
pins11 = pin_at 10 0 ∷ pin_at 11 100 ∷ []

abbrev rows : List Row
rows = rows_of_write 11 arrival

abbrev opened : Hall
opened = hall_of empty [] 2 [] (fresh 1 ∷ []) 10 []

abbrev sheeted : Hall
sheeted = hall_of empty [] 2 [] (tx_of 1 true [] (fresh_frame 0 900 ∷ []) ∷ []) 10 []

abbrev reading : Hall
reading = hall_of first [] 2 pins10 (with_claim ∷ []) 10 []

goes : {mistake : Mistake} {rules : Rules} {o : Origin} {trace : List Event} {hall : Hall} (hall' : Hall) (event : Event) → Wanders mistake rules o trace hall
    → Strays mistake rules hall event.call event.changes event.reply event.given hall' → Sound hall'.db → Wanders mistake rules o (event ∷ trace) hall'
goes hall' event before strays sound = then _ _ hall' event before strays sound

-- a mistake that is made neither at a query nor where nothing is asked
pub record Elsewhere (mistake : Mistake) : Type 0 where
  pub nothing : mistake.place None ≡ false
  pub queries : (query : Query) → mistake.place (Some (Asked query)) ≡ false

-- transaction 1 begins
begins : {mistake : Mistake} {rules : Rules} → Elsewhere mistake → Wanders mistake rules origin (quiet (Begin 0 0) (Began 1 0) ∷ []) opened
begins {mistake} {rules} apart = goes opened (quiet (Begin 0 0) (Began 1 0)) (made started (starts rules)) (rightly _ _ _ _ _ apart.nothing (began 0 0 refl)) (sound empty good_empty)

-- it has called the claim sheet of ticket 900, and the ticket is asked for
asks : {mistake : Mistake} → Elsewhere mistake → Strays mistake attendant opened (Sheet 1 0 900) [] (Ok Open) None sheeted → Wanders mistake attendant origin asked reading
asks {mistake} apart called =
    let w = goes sheeted (quiet (Sheet 1 0 900) Open) (begins apart) called (sound empty good_empty) in
    goes reading (gives (Step 1 0) Open 1 (of_query (Get ticket)) None) w
    (rightly _ _ _ _ _ (apart.queries (Get ticket))
    (step_query 1 0 10 (Get ticket) (tx_of 1 true [] (fresh_frame 0 900 ∷ [])) (tx_of 1 false (10 ∷ []) (fresh_frame 0 900 ∷ [])) (fresh_frame 0 900) [] (meaning first) pins10 (answer_at first 10 (Get ticket))
    refl refl refl refl refl (pinned (meaning first) refl refl (pins_latest empty refl)) (refl, answers first 10 (Get ticket) good_first refl)))
    (sound first good_first)

-- the guest comes
comes : {mistake : Mistake} {rules : Rules} {trace : List Event} (entries : List Entry) (tx : Transaction) → Elsewhere mistake
    → Wanders mistake rules origin trace (hall_of first entries 2 pins10 (tx ∷ []) 10 [])
    → Wanders mistake rules origin (arrives ∷ trace) (hall_of second entries 2 pins10 (tx ∷ []) 10 rows)
comes entries tx apart w =
    goes (hall_of second entries 2 pins10 (tx ∷ []) 10 rows) arrives w (rightly _ _ _ _ _ apart.nothing (wrote arrival 11 (meaning second) refl (writes first arrival good_first))) (sound second good_second)

-- the message of 11 ends the entries that rest on the ticket or the door
abbrev ended : List Entry → List Entry
ended entries = map (closed (change_tag (Set door (valued 1 900))) 11) (map (closed ticket_tag 11) entries)

ends : (entries : List Entry) → ClosesAll 11 rows entries (ended entries)
ends entries = more _ _ _ _ _ (closes_each ticket_tag 11 entries) (more _ _ _ _ _ (closes_each (change_tag (Set door (valued 1 900))) 11 (map (closed ticket_tag 11) entries)) (none _))

told : {mistake : Mistake} {rules : Rules} {trace : List Event} (entries : List Entry) (tx : Transaction) → Elsewhere mistake
    → Wanders mistake rules origin trace (hall_of second entries 2 pins10 (tx ∷ []) 10 rows)
    → Wanders mistake rules origin (quiet Deliver (Delivered 11) ∷ trace) (hall_of second (ended entries) 2 pins10 (tx ∷ []) 11 [])
told entries tx apart w =
    goes (hall_of second (ended entries) 2 pins10 (tx ∷ []) 11 []) (quiet Deliver (Delivered 11)) w (rightly _ _ _ _ _ apart.nothing (delivered _ _ (ended entries) refl (ends entries))) (sound second good_second)

-- transaction 2 reads the door at 11
reads : {mistake : Mistake} {rules : Rules} {trace : List Event} (entries : List Entry) (T : ℕ) (rest : List Row) → Elsewhere mistake
    → Wanders mistake rules origin trace (hall_of second entries 2 pins10 (at 1 10 ∷ []) T rest)
    → Wanders mistake rules origin (reader ++ trace) (hall_of third entries 3 pins11 (at 2 11 ∷ at 1 10 ∷ []) T rest)
reads entries T rest apart w =
    let w1 = goes (hall_of second entries 3 pins10 (fresh 2 ∷ at 1 10 ∷ []) T rest) (quiet (Begin 100 0) (Began 2 0)) w (rightly _ _ _ _ _ apart.nothing (began 100 0 refl)) (sound second good_second) in
    goes (hall_of third entries 3 pins11 (at 2 11 ∷ at 1 10 ∷ []) T rest) (gives (Directly 2 (Get door) 100) (Read (Some (1, 900))) 2 (of_query (Get door)) (Some (1, 900))) w1
    (rightly _ _ _ _ _ (apart.queries (Get door))
    (queried 2 100 11 (Get door) (fresh 2) (at 2 11) (meaning third) pins11 (answer_at third 11 (Get door)) refl refl refl
    (pinned (meaning third) refl refl (pins_latest second refl)) (refl, answers third 11 (Get door) good_third refl)))
    (sound third good_third)

-- at 11 ticket 900 has a bag behind door 5
abbrev since : Records
since = changed arrival origin.records

has_bag : Gives attendant since 0 900 None → ⊥
has_bag given =
    let is : ◌≡◌ {A = Reading} None (Some (1, 5)) = value_is_one attendant since 0 900 None (Some (1, 5)) given (0, claim_gives since 900) in
    cc

-- transaction 2 is told at 11 that there is none
no_bag_stands : {mistake : Mistake} (trace : List Event) (entries : List Entry) (T : ℕ) (rest : List Row)
    → Wanders mistake attendant origin (no_bag ∷ trace) (hall_of third entries 3 pins11 (at 2 11 ∷ at 1 10 ∷ []) T rest)
    → (Gives attendant (records_at origin (no_bag ∷ trace) 11) 0 900 None → ⊥)
    → Breaks mistake attendant origin (no_bag ∷ trace)
no_bag_stands trace entries T rest w wrong = record {
  hall = hall_of third entries 3 pins11 (at 2 11 ∷ at 1 10 ∷ []) T rest;
  wanders = w;
  tx = at 2 11;
  listed = inl refl;
  given = record { number = 2; question = of_sheet 0 900; reading = None };
  told = inl refl;
  its = refl;
  moment = 11;
  inside = refl;
  wrong = wrong;
}

-- an open entry counts beyond T
beyond_elsewhere : Elsewhere beyond_t
beyond_elsewhere = record { nothing = refl; queries = λ query. refl }

pub beyond : Breaks beyond_t attendant origin calls_beyond
beyond =
    let w3 = asks beyond_elsewhere (wrongly _ _ _ _ _ refl (miss 1 0 900 (fresh 1) [] refl refl (lit< tt) (missed [] _ [] limitless refl) (same []))) in
    let w4 = goes (hall_of first (claim ∷ []) 2 pins10 (at 1 10 ∷ []) 10 []) finished w3
    (rightly _ _ _ _ _ refl (step_last 1 0 None with_claim claiming (claim ∷ []) refl refl refl (inserted [] claim (λ e a. absurd a)))) (sound first good_first) in
    let w7 = reads (claim ∷ []) 10 rows beyond_elsewhere (comes (claim ∷ []) (at 1 10) beyond_elsewhere w4) in
    no_bag_stands _ (claim ∷ []) 10 rows
    (goes (hall_of third (claim ∷ []) 3 pins11 (at 2 11 ∷ at 1 10 ∷ []) 10 rows) no_bag w7
    (wrongly _ _ _ _ _ refl (hit 2 0 900 (at 2 11) claim (claim ∷ []) refl refl (lit< tt) (found (claim ∷ []) _ 11 limitless claim (inl refl) refl) (same (claim ∷ [])))) (sound third good_third))
    has_bag

-- a late insert is left open
late_elsewhere : Elsewhere leaves_open
late_elsewhere = record { nothing = refl; queries = λ query. refl }

pub late : Breaks leaves_open attendant origin calls_late
late =
    let w3 = asks late_elsewhere (rightly _ _ _ _ _ refl (miss 1 0 900 (fresh 1) [] refl refl (lit< tt) (missed [] _ [] 10 refl) (same []))) in
    let w5 = told [] with_claim late_elsewhere (comes [] with_claim late_elsewhere w3) in
    let w6 = goes (hall_of second (claim ∷ []) 2 pins10 (at 1 10 ∷ []) 11 []) finished w5
    (wrongly _ _ _ _ _ refl (step_last 1 0 None with_claim claiming (claim ∷ []) refl refl refl (inserted [] claim (λ e a. absurd a)))) (sound second good_second) in
    let w8 = reads (claim ∷ []) 11 [] late_elsewhere w6 in
    no_bag_stands _ (claim ∷ []) 11 []
    (goes (hall_of third (claim ∷ []) 3 pins11 (at 2 11 ∷ at 1 10 ∷ []) 11 []) no_bag w8
    (rightly _ _ _ _ _ refl (hit 2 0 900 (at 2 11) claim (claim ∷ []) refl refl (lit< tt) (found (claim ∷ []) _ 11 11 claim (inl refl) refl) (same (claim ∷ [])))) (sound third good_third))
    has_bag

-- a sheet forgets a hit's tags
abbrev doors_tag : Tag
doors_tag = record { table = 0; key = None }

-- the board's sheet 0 of a state, once the doors were tallied at 10
abbrev tallying : ℕ → Frame
tallying state = record {
  point = record { sheet = 0; argument = state; stage = 1; carry = 0; last = None };
  answers = 1;
  part = record { interval = record { first = 0; until = Since 10 }; tags = doors_tag ∷ [] };
}

abbrev tally : ℕ → Entry
tally state = record { key = record { sheet = 0; argument = state }; reading = None; interval = record { first = 0; until = Since 10 }; tags = packed (doors_tag ∷ []) }

-- sheet 1 after so many hits, without their tags
abbrev counting : ℕ → Frame
counting hits = record {
  point = record { sheet = 1; argument = 0; stage = hits; carry = 0; last = None };
  answers = hits;
  part = record { interval = record { first = 0; until = Since 10 }; tags = [] };
}

-- what it enters: no door free, none taken, and no tags
abbrev counts : Entry
counts = record { key = record { sheet = 1; argument = 0 }; reading = Some (0, 0); interval = record { first = 0; until = Since 10 }; tags = packed [] }

-- the entries as the mistake takes them
abbrev bare : List Entry → List Entry
bare entries = map untagged entries

abbrev tallied : List Entry
tallied = tally 1 ∷ tally 0 ∷ []

abbrev working : List Frame → Transaction
working frames = tx_of 1 false (10 ∷ []) frames

abbrev at_board : List Entry → List Frame → Hall
at_board entries frames = hall_of first entries 2 pins10 (working frames ∷ []) 10 []

forgetful_elsewhere : Elsewhere forgets_tags
forgetful_elsewhere = record { nothing = refl; queries = λ query. refl }

-- the free doors, with the present pinned
tallies_free : Wanders forgets_tags board origin (tallies 0 ++ quiet (Begin 0 0) (Began 1 0) ∷ []) (at_board (tally 0 ∷ []) [])
tallies_free =
    let w2 = goes (hall_of empty [] 2 [] (tx_of 1 true [] (fresh_frame 0 0 ∷ []) ∷ []) 10 []) (quiet (Sheet 1 0 0) Open) (begins forgetful_elsewhere)
    (wrongly _ _ _ _ _ refl (miss 1 0 0 (fresh 1) [] refl refl (lit< tt) (missed [] _ [] 10 refl) (same []))) (sound empty good_empty) in
    let w3 = goes (at_board [] (tallying 0 ∷ [])) (gives (Step 1 0) Open 1 (of_query (Tally 0 0)) None) w2
    (rightly _ _ _ _ _ refl
    (step_query 1 0 10 (Tally 0 0) (tx_of 1 true [] (fresh_frame 0 0 ∷ [])) (working (fresh_frame 0 0 ∷ [])) (fresh_frame 0 0) [] (meaning first) pins10 (answer_at first 10 (Tally 0 0))
    refl refl refl refl refl (pinned (meaning first) refl refl (pins_latest empty refl)) (refl, answers first 10 (Tally 0 0) good_first refl)))
    (sound first good_first) in
    goes (at_board (tally 0 ∷ []) []) (gives (Step 1 0) (Read None) 1 (of_sheet 0 0) None) w3
    (rightly _ _ _ _ _ refl (step_last 1 0 None (working (tallying 0 ∷ [])) (tallying 0) (tally 0 ∷ []) refl refl refl (inserted [] (tally 0) (λ e a. absurd a)))) (sound first good_first)

-- the taken doors, at the moment that is pinned
tallies_taken : Wanders forgets_tags board origin (tallies 1 ++ tallies 0 ++ quiet (Begin 0 0) (Began 1 0) ∷ []) (at_board tallied [])
tallies_taken =
    let w5 = goes (at_board (tally 0 ∷ []) (fresh_frame 0 1 ∷ [])) (quiet (Sheet 1 0 1) Open) tallies_free
    (wrongly _ _ _ _ _ refl (miss 1 0 1 (working []) (bare (tally 0 ∷ [])) refl refl (lit< tt) (missed (bare (tally 0 ∷ [])) _ (10 ∷ []) 10 refl) (same _))) (sound first good_first) in
    let w6 = goes (at_board (tally 0 ∷ []) (tallying 1 ∷ [])) (gives (Step 1 0) Open 1 (of_query (Tally 0 1)) None) w5
    (rightly _ _ _ _ _ refl
    (step_query 1 0 10 (Tally 0 1) (working (fresh_frame 0 1 ∷ [])) (working (fresh_frame 0 1 ∷ [])) (fresh_frame 0 1) [] (meaning first) pins10 (answer_at first 10 (Tally 0 1))
    refl refl refl refl refl (taken 10 refl refl) (refl, answers first 10 (Tally 0 1) good_first refl)))
    (sound first good_first) in
    goes (at_board tallied []) (gives (Step 1 0) (Read None) 1 (of_sheet 0 1) None) w6
    (rightly _ _ _ _ _ refl
    (step_last 1 0 None (working (tallying 1 ∷ [])) (tallying 1) tallied refl refl refl (inserted (tally 0 ∷ []) (tally 1) (λ e a. ⊎_elim (λ is. ap (gives_way (tally 1)) is) (λ none. absurd none) a))))
    (sound first good_first)

-- sheet 1 is put together from two hits, and goes in without tags
counts_doors : Wanders forgets_tags board origin (counted ++ tallies 1 ++ tallies 0 ++ quiet (Begin 0 0) (Began 1 0) ∷ []) (at_board (counts ∷ tallied) [])
counts_doors =
    let w8 = goes (at_board tallied (fresh_frame 1 0 ∷ [])) (quiet (Sheet 1 1 0) Open) tallies_taken
    (wrongly _ _ _ _ _ refl (miss 1 1 0 (working []) (bare tallied) refl refl (lit< tt) (missed (bare tallied) _ (10 ∷ []) 10 refl) (same _))) (sound first good_first) in
    let w9 = goes (at_board tallied (counting 1 ∷ [])) (gives (Step 1 0) Open 1 (of_sheet 0 0) None) w8
    (wrongly _ _ _ _ _ refl
    (step_hit 1 0 0 0 (working (fresh_frame 1 0 ∷ [])) (fresh_frame 1 0) [] (untagged (tally 0)) (bare tallied) refl refl refl refl (lit< tt) (found (bare tallied) _ 10 10 (untagged (tally 0)) (inr (inl refl)) refl) (same _)))
    (sound first good_first) in
    let w10 = goes (at_board tallied (counting 2 ∷ [])) (gives (Step 1 0) Open 1 (of_sheet 0 1) None) w9
    (wrongly _ _ _ _ _ refl
    (step_hit 1 0 0 1 (working (counting 1 ∷ [])) (counting 1) [] (untagged (tally 1)) (bare tallied) refl refl refl refl (lit< tt) (found (bare tallied) _ 10 10 (untagged (tally 1)) (inl refl) refl) (same _)))
    (sound first good_first) in
    goes (at_board (counts ∷ tallied) []) (gives (Step 1 0) (Read (Some (0, 0))) 1 (of_sheet 1 0) (Some (0, 0))) w10
    (rightly _ _ _ _ _ refl
    (step_last 1 0 (Some (0, 0)) (working (counting 2 ∷ [])) (counting 2) (counts ∷ tallied) refl refl refl
    (inserted tallied counts (λ e a. ⊎_elim (λ is. ap (gives_way counts) is) (λ rest. ⊎_elim (λ is. ap (gives_way counts) is) (λ none. absurd none) rest) a))))
    (sound first good_first)

-- at 11 one door is taken
tallies_since : (state : ℕ) (keys : List ℕ) → KeysIn (state_at second.kept 11) 0 state keys → KeysIn since 0 state keys
tallies_since state keys told = record { once = told.once; these = λ key. told.these key ∙ ap (in_state state) ((writes first arrival good_first).newest 0 key) }

abbrev taken_of : Reading → ℕ
taken_of None = 0
taken_of (Some pair) = pair.1

one_taken : Gives board since 1 0 (Some (0, 0)) → ⊥
one_taken given =
    let right : Gives board since 1 0 (Some (0, 1)) = (
      1,
      (
        lit< tt,
        (
          _,
          call {left = 31} 0 0 None refl (lit< tt) (tally_runs since 0 0 [] refl (tallies_since 0 [] (keys_in 0 0 (rows_at 11 second.kept) (apart_after 11)))).1
              (call {left = 30} 0 1 (Some (1, 5)) refl (lit< tt) (tally_runs since 1 0 (5 ∷ []) refl (tallies_since 1 (5 ∷ []) (keys_in 0 1 (rows_at 11 second.kept) (apart_after 11)))).1
              (done {left = 29} refl)),
        ),
      ),
    ) in
    let is : ◌≡◌ {A = Reading} (Some (0, 0)) (Some (0, 1)) = value_is_one board since 1 0 (Some (0, 0)) (Some (0, 1)) given right in
    let z : ◌≡◌ {A = ℕ} 0 1 = ap taken_of is in omega arith

pub forgetful : Breaks forgets_tags board origin calls_forgetful
forgetful =
    let w13 = told (counts ∷ tallied) (at 1 10) forgetful_elsewhere (comes (counts ∷ tallied) (at 1 10) forgetful_elsewhere counts_doors) in
    let after = ended (counts ∷ tallied) in
    let w15 = reads after 11 [] forgetful_elsewhere w13 in
    record {
      hall = hall_of third after 3 pins11 (at 2 11 ∷ at 1 10 ∷ []) 11 [];
      wanders =
          goes (hall_of third after 3 pins11 (at 2 11 ∷ at 1 10 ∷ []) 11 []) (gives (Sheet 2 1 0) (Read (Some (0, 0))) 2 (of_sheet 1 0) (Some (0, 0))) w15
          (wrongly _ _ _ _ _ refl (hit 2 1 0 (at 2 11) counts (bare after) refl refl (lit< tt) (found (bare after) _ 11 11 counts (inl refl) refl) (same _))) (sound third good_third);
      tx = at 2 11;
      listed = inl refl;
      given = record { number = 2; question = of_sheet 1 0; reading = Some (0, 0) };
      told = inl refl;
      its = refl;
      moment = 11;
      inside = refl;
      wrong = one_taken;
    }
