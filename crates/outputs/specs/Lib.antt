-- the call that prints a refusal
pub mod RefusalCall
-- the calls of the schedule printer, one after the other
pub mod ScheduleCalls
-- the calls of the response printer, one after the other
pub mod ResponseCalls
-- between two calls: what holds, and what is still to be written
pub mod ScheduleMoments
pub mod ResponseMoments
-- after a call: the same, of the cursor that it gives, if it does
pub mod After
