-- The mathematics of text, from the bottom up:
-- text put into a buffer; the digits of a number, the labels of a code, the lines of a list
pub mod Puts
pub mod Digits
-- the calls: counted first and then written; no second answer
pub mod CallLaws
pub mod Instances
