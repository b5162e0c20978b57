-- The number and the place of each fault.
use Rattle.std.specs.Prelude.{ℕ}
use Rattle.terms.specs.declared.fault.Fault.{Fault}
use Rattle.terms.specs.declared.fault.Fault.TheVariants.{NotOpen, TooManyOpen, LimitTooLong, NumbersUsedUp, FramesOpen, NoFrame, QueryTable, SheetUnknown, TooDeep, NeverDone, RecipeTable, NoPin, NotHeld, NoChange, TooManyChanges, RecordRepeated, ChangeTable, MomentsUsedUp, StreamFull, StoreFull, StreamEmpty, OutOfRange, OutOfMemory}

-- the tens digit is the layer: 1 the books, 2 the recipe, 3 the pins, 4 writes, 5 the stream, 6 a making
abbrev pub number_of : Fault → ℕ
number_of NotOpen = 11
number_of TooManyOpen = 12
number_of LimitTooLong = 13
number_of NumbersUsedUp = 14
number_of FramesOpen = 15
number_of NoFrame = 16
number_of QueryTable = 17
number_of (SheetUnknown frames) = 21
number_of (TooDeep frames) = 22
number_of (NeverDone frames) = 23
number_of (RecipeTable frames) = 24
number_of (NoPin frames) = 31
number_of (NotHeld frames) = 32
number_of NoChange = 41
number_of TooManyChanges = 42
number_of (RecordRepeated index) = 43
number_of (ChangeTable index) = 44
number_of MomentsUsedUp = 45
number_of StreamFull = 46
number_of StoreFull = 47
number_of StreamEmpty = 51
number_of OutOfRange = 61
number_of OutOfMemory = 62

-- the number of frames before the call for 21 to 32, the change's index from 0 for 43 and 44, else 0
abbrev pub place_of : Fault → ℕ
place_of NotOpen = 0
place_of TooManyOpen = 0
place_of LimitTooLong = 0
place_of NumbersUsedUp = 0
place_of FramesOpen = 0
place_of NoFrame = 0
place_of QueryTable = 0
place_of (SheetUnknown frames) = frames
place_of (TooDeep frames) = frames
place_of (NeverDone frames) = frames
place_of (RecipeTable frames) = frames
place_of (NoPin frames) = frames
place_of (NotHeld frames) = frames
place_of NoChange = 0
place_of TooManyChanges = 0
place_of (RecordRepeated index) = index
place_of (ChangeTable index) = index
place_of MomentsUsedUp = 0
place_of StreamFull = 0
place_of StoreFull = 0
place_of StreamEmpty = 0
place_of OutOfRange = 0
place_of OutOfMemory = 0
